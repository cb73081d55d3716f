-- A directory read page by page, and each entry from a piece of it.
use Rattle.std.specs.Prelude.{◌≡◌, ℕ, ◌+◌, ◌≤◌, ◌<◌, List, length, get_or, take, drop}
use Rattle.filing.specs.declared.pages.Page.{Page}

abbrev pub page_size : ℕ
page_size = 512

-- what shows an entry: 6 bytes and the longest name, and one more, by which a longer name shows
abbrev pub piece_size : ℕ
piece_size = 71

-- the piece of a directory's bytes from `at` on, as far as they go
abbrev pub piece_at : List ℕ → ℕ → List ℕ
piece_at r at = take piece_size (drop at r)

-- the page has the bytes from the place on at which it starts, as far as they go
pub record Paged (page : Page) (r : List ℕ) : Type 0 where
  pub long : length page.bytes ≡ page_size
  pub reads : (i : ℕ) → i < page_size → page.from + i < length r → get_or page.bytes i 0 ≡ get_or r (page.from + i) 0

-- a piece at `at` is all on the page
pub record On (page : Page) (at : ℕ) : Type 0 where
  pub low : page.from ≤ at
  pub high : at + piece_size ≤ page.from + page_size

-- the page has the bytes, and the piece at `at` is all on it
pub record Turned (page : Page) (at : ℕ) (r : List ℕ) : Type 0 where
  pub paged : Paged page r
  pub on : On page at
