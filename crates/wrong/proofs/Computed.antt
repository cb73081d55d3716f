-- What two wrong stores make of a card, computed byte by byte, as the cases of the layout are.
use mathlib.Core.Path.{◌≡◌, refl}
use mathlib.Core.List.{[], ◌∷◌}
use lib.ListN.{replicate}
use lib.Dec.{T}
use Rattle.layout.specs.Bytes.{all_b, num, bytes, over, put, window, matches, same, run, holds, distinct, below, those, separate, join}
use Rattle.layout.specs.Pyramid.{level, above, climb, height, P, missing}
use Rattle.layout.specs.Blocks.{walk, next, chain, taken, freed, linked, falling, rising, given_back, released, node, kept, cells, surplus, hooked, hung, raised, rooted, grown_one, grown, lowered_top}
use Rattle.layout.specs.Streams.{desc_in, contents, laid_row, laid_rows, laid, table, table_bytes, desc_of, dead, live, lives, frees, desc_chain, in_table, table_set, desc_set, stream, stream_bytes, in_stream, lengthened, table_lengthened, shortened, table_blocks, stream_blocks}
use Rattle.layout.specs.Filing.{entries_from, entries, entry_bytes, good_name, reads_from, reads, look_in, distinct_names, good_directory, entries_of, with_entry, without_entry, extended, pulled}
use Rattle.layout.specs.Header.{shape_of, fixed, new_header, good_shape}
use Rattle.layout.specs.Sound.{right_desc, live_form, free_form, used, reached, rule1, rule2, rule3, rule4, rule5, rule6, rule7, rule8, broken}
use Rattle.layout.specs.Calls.{first_no, links_from, formatted, format, check, room, size, read, list, written, write, truncate, described, created, create, undescribed, deleted, delete}
use Rattle.demands.specs.Call.{writes}
use Rattle.demands.specs.Owners.{all_blocks, times}
use Rattle.demands.specs.Store.{does, runs}
use Rattle.wrong.specs.Cards.{a, b, two_streams}
use Rattle.wrong.specs.Stores.{turning, sharing, turned, shared}
use Rattle.wrong.specs.Tests.{same_order, in_one}

-- "b" gets a byte, and the blocks of "a" are in another order
pub order_lost : T (same_order two_streams (does turning 0 two_streams (writes b 0 (9 ∷ []))).card a) → ⊥
unfolding all_b num bytes over put window matches same run holds distinct below those separate join level above climb height P missing walk next chain taken freed linked falling rising given_back released node kept cells surplus hooked hung raised rooted grown_one grown lowered_top desc_in contents laid_row laid_rows laid table table_bytes desc_of dead live lives frees desc_chain in_table table_set desc_set stream stream_bytes in_stream lengthened table_lengthened shortened table_blocks stream_blocks entries_from entries entry_bytes good_name reads_from reads look_in distinct_names good_directory entries_of with_entry without_entry extended pulled shape_of fixed new_header good_shape right_desc live_form free_form used reached rule1 rule2 rule3 rule4 rule5 rule6 rule7 rule8 broken first_no links_from formatted format check room size read list written write truncate described created create undescribed deleted delete does runs turned same_order
order_lost t = t

-- which no rule of the check finds
pub order_unseen : broken (does turning 0 two_streams (writes b 0 (9 ∷ []))).card ≡ 0
unfolding all_b num bytes over put window matches same run holds distinct below those separate join level above climb height P missing walk next chain taken freed linked falling rising given_back released node kept cells surplus hooked hung raised rooted grown_one grown lowered_top desc_in contents laid_row laid_rows laid table table_bytes desc_of dead live lives frees desc_chain in_table table_set desc_set stream stream_bytes in_stream lengthened table_lengthened shortened table_blocks stream_blocks entries_from entries entry_bytes good_name reads_from reads look_in distinct_names good_directory entries_of with_entry without_entry extended pulled shape_of fixed new_header good_shape right_desc live_form free_form used reached rule1 rule2 rule3 rule4 rule5 rule6 rule7 rule8 broken first_no links_from formatted format check room size read list written write truncate described created create undescribed deleted delete does runs turned
order_unseen = refl

-- "b" gets the bytes of "a", and with them the blocks: block 4 is in both
pub in_both : T (in_one (does sharing 0 two_streams (writes b 0 (replicate 65 5))).card 4) → ⊥
unfolding all_b num bytes over put window matches same run holds distinct below those separate join level above climb height P missing walk next chain taken freed linked falling rising given_back released node kept cells surplus hooked hung raised rooted grown_one grown lowered_top desc_in contents laid_row laid_rows laid table table_bytes desc_of dead live lives frees desc_chain in_table table_set desc_set stream stream_bytes in_stream lengthened table_lengthened shortened table_blocks stream_blocks entries_from entries entry_bytes good_name reads_from reads look_in distinct_names good_directory entries_of with_entry without_entry extended pulled shape_of fixed new_header good_shape right_desc live_form free_form used reached rule1 rule2 rule3 rule4 rule5 rule6 rule7 rule8 broken first_no links_from formatted format check room size read list written write truncate described created create undescribed deleted delete does runs shared times all_blocks in_one
in_both t = t

pub as_many : (shape_of (does sharing 0 two_streams (writes b 0 (replicate 65 5))).card).count ≡ 10
unfolding all_b num bytes over put window matches same run holds distinct below those separate join level above climb height P missing walk next chain taken freed linked falling rising given_back released node kept cells surplus hooked hung raised rooted grown_one grown lowered_top desc_in contents laid_row laid_rows laid table table_bytes desc_of dead live lives frees desc_chain in_table table_set desc_set stream stream_bytes in_stream lengthened table_lengthened shortened table_blocks stream_blocks entries_from entries entry_bytes good_name reads_from reads look_in distinct_names good_directory entries_of with_entry without_entry extended pulled shape_of fixed new_header good_shape right_desc live_form free_form used reached rule1 rule2 rule3 rule4 rule5 rule6 rule7 rule8 broken first_no links_from formatted format check room size read list written write truncate described created create undescribed deleted delete does runs shared
as_many = refl
