-- What is read: a stream's bytes in the tray, and how many.
use mathlib.Core.Path.{◌≡◌, ap}
use mathlib.Core.List.{List}
use Prim.Native.Nat.{ℕ, ◌+◌, ◌-◌, ◌/◌, ◌^◌, min, ◌≤◌, ◌<◌}
use native.Mathlib.Omega.{arith}
use lib.ListN.{length, take, drop, length-take, length-drop}
use Rattle.layout.specs.Bytes.{over}
use Rattle.layout.specs.Pyramid.{up}
use Rattle.layout.specs.Streams.{data_of, contents, stream, stream_bytes}
use Rattle.laws.proofs.State.{length-stream}
use Rattle.stream.proofs.Sizes.{data_fits, up_fits}
use Rattle.layout.specs.declared.Shape.{Shape}
use Rattle.layout.specs.declared.Desc.{Desc}

module _ (c tray : List ℕ) (s : Shape) (k p : ℕ) (t : Desc) (e : t ≡ stream c s k) where
  pub read-bytes : (tray₁ : List ℕ) (n : ℕ) → tray₁ ≡ over tray 0 (take n (drop p (contents c s t.top (data_of s t) t.size))) → tray₁ ≡ over tray 0 (take n (drop p (stream_bytes c s k)))
  unfolding stream_bytes
  read-bytes tray₁ n f = rw e at f

  pub read_count : (n r : ℕ) → r ≡ min n (t.size - p) → r ≡ length (take n (drop p (stream_bytes c s k)))
  read_count n r g = rw (length-take, length-drop, length-stream) (omega (arith, g, ap (λ (d : Desc). d.size) e))

module _ (s : Shape) (least : 64 ≤ s.size) (most : s.size ≤ 4096) (t : Desc) (low : t.reserved < 2 ^ 64) (n u m : ℕ) (h : n < 2 ^ 62) (e : u ≡ up s.size n) (f : m ≡ u - t.reserved / s.size) where
  pub data_low : data_of s t < 2 ^ 58
  data_low = data_fits s least most t.reserved low

  pub sum_low : data_of s t + m < 2 ^ 58
  sum_low = omega (arith, data_low, (up_fits s least most n h).0)
