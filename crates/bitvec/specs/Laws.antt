-- What callers name by `using`: a set of laws for each kind of call.
use Rattle.std.proofs.lemmas.Grind.{get_or-set_at}
use Rattle.std.proofs.lemmas.List.{get_or-replicate, get_or-set_other, length-set, reverse-reverse}
use Rattle.bitvec_within.specs.CombinedLaws.{get-combined_within_above, get-combined_within_below, get-combined_within_inside, length-combined_within, range-combined_within, range-combined_within_after, range-combined_within_before}
use Rattle.bitvec_base.specs.CountLaws.{ones_and_zeros}
use Rattle.bitvec_base.specs.CountedLaws.{ones-all, ones-fewer, ones-flipped, ones-front, ones-more, ones-none, ones-rest, ones-reversed, ones-rotated_left, ones-rotated_right, ones-whole, zeros-all, zeros-fewer, zeros-flipped, zeros-more, zeros-none, zeros-reversed, zeros-rotated_left, zeros-rotated_right}
use Rattle.bitvec_base.specs.FillLaws.{flip-undoes}
use Rattle.bitvec_base.specs.FilledLaws.{all-filled, any-filled, bits-zeros, equal-same, first-filled, first-of_filled, last-filled, same-equal}
use Rattle.bitvec_base.specs.NeedleLaws.{is_prefix-no_longer, is_suffix-no_longer}
use Rattle.bitvec_base.specs.PlacesLaws.{first_place-absent, first_place-before, first_place-below, first_place-bit, last_place-absent, last_place-after, last_place-below, last_place-bit}
use Rattle.bitvec_base.specs.RotationLaws.{rotated_left-undoes, rotated_right-undoes}
use Rattle.bitvec_base.specs.MemoryLaws.{length-element_bits, length-memory_bits}
use Rattle.bitvec_base.specs.WindowLaws.{get-window, length-window}
use Rattle.bitvec_base.specs.WriteLaws.{get-slice_range, get-write_at_above, get-write_at_below, get-write_at_inside, length-slice_range, length-write_at, range-write_at, range-write_at_after, range-write_at_before}
use Rattle.bitvec_cells.specs.CostLaws.{enough}
use Rattle.bitvec_field.specs.IntegersLaws.{remainder-narrow}
use Rattle.bitvec_in_place.specs.FrontLaws.{front-all, front-bits, front-filled, front-grown, front-inserted, front-last, front-longer, front-none, front-number, front-range, front-removed, front-set_behind, front-set_inside, front-set_next, front-shorter, front-written, front-written_behind, front-written_inside, get-front, get-inserted_behind, get-removed_behind, length-front, length-inserted, length-removed, range-set_after, range-set_before, range-set_inside}
use Rattle.bitvec_in_place.specs.Laws.{asked as in_range, changed, lengths as kept_lengths, listed, numbers, parts, put as written_by, ranged}
use Rattle.bitvec_in_place.specs.MovedLaws.{get-copied_outside, length-bits_of}
use Rattle.bitvec_in_place.specs.RangeBitsLaws.{bits_in-range}
use Rattle.bitvec_in_place.specs.RangesLaws.{get-filled_outside, get-flipped_outside, get-joined_outside, get-moved_end_outside, get-moved_start_outside, get-numbered_outside, get-reversed_outside, get-rotated_left_outside, get-rotated_right_outside, worded as words}
use Rattle.bitvec_iter.specs.JoinLaws.{joining as chunks}
use Rattle.bitvec_iter.specs.Laws.{walked as walks}
use Rattle.bitvec_segments.specs.LoadLaws.{loaded-one, loaded_be-phase, loaded_le-phase}
use Rattle.bitvec_segments.specs.StoreLaws.{length-segment_bits, length-stored, loaded_be-determines, loaded_be-stores, loaded_le-determines, loaded_le-stores, stored_be-loads, stored_le-loads}
use Rattle.bitvec_owned.specs.AroundLaws.{around-then, around-written, holds-then}
use Rattle.bitvec_owned.specs.SequenceLaws.{begins-more, begins-own, get-insert_at, get-insert_before, get-insert_behind, get-remove_before, get-remove_behind, get-remove_range_before, get-remove_range_behind, get-swap_remove_at, get-swap_remove_other, insert-remove, length-inserted_one, length-remove_range, length-removed_one, length-swap_remove, remove-insert}
use Rattle.bitvec_owned.specs.WritesLaws.{length-owned, owned-room}
use Rattle.bitvec_domain.specs.PredicatesLaws.{may_ask_always}
use Rattle.bitvec_closures.specs.WritesLaws.{written-around, written-none, written-then}
use Rattle.bitvec.specs.ComposedLaws.{array-none, array-then, owned-both, owned-none, owned-then}
use Rattle.bitvec_in_place.specs.ChangesLaws.{changes-none, changes-then, number-unchanged}
use Rattle.bitvec.specs.FoundLaws.{all_in-false, all_in-none, all_in-true, any_in-false, any_in-true, first_in-absent, first_in-before, first_in-below, first_in-bit, last_in-absent, last_in-after, last_in-below, last_in-bit, number-at_one, number-before_one, number-without_one, range-bits_in}
use Rattle.bitvec.specs.NumberSidesLaws.{get-high_number, get-low_number, number-high_sides, number-high_stored, number-low_sides, number-low_stored, number-none, number-one, number-ones, number-zeros}
use Rattle.bitvec.specs.OwnViewsLaws.{bits-all, bits-front, bits-range}
use Rattle.bitvec.specs.ListNumbersLaws.{bits_in-rest, bits_in-set, left-fits, left-number, left-passed, left-told, left-whole, number-left, range-rest, segment-dropped, segment-front, segment-kept, segment-push, segment-shorter, segment-taken, segment-written, taken-below_16, taken-below_32, taken-below_64, taken-below_8, written-first}
use Rattle.bitvec.specs.BytesLaws.{lsb0-append, lsb0-behind, lsb0-cons, lsb0-length, lsb0-nil, lsb0-push, lsb0-same, lsb0-word, lsb0-zeros, msb0-append, msb0-behind, msb0-cons, msb0-length, msb0-nil, msb0-push, msb0-same, msb0-word, msb0-zeros}
use Rattle.bitvec.specs.CountLaws.{ones-in_bound, zeros-in_bound}
use Rattle.bitvec.specs.FitLaws.{ones-here, ones-past, run-end, run-none, zeros-here, zeros-past}
use Rattle.bitvec.specs.HeldLaws.{held-count, held-memory}
use Rattle.bitvec.specs.SetLaws.{cleared-stays, cleared-was, set-stays, set-was}
use Rattle.bitvec.specs.WindowsLaws.{windows-determine}
use Rattle.bitvec.specs.FlagLaws.{flag-back, flag-below, flag-fits, flag-same, flag-told}
use Rattle.bitvec.specs.PartsLaws.{get-parts, length-parts}
use Rattle.bitvec.specs.PlacedLaws.{length-places, length-zero_places, nth-below, nth-bit, nth-count, nth-place, nth-rank, nth_zero-count, nth_zero-place, places-and, places-and_not, places-append, places-ascend, places-below, places-bit, places-cleared, places-cons, places-count, places-flipped, places-have, places-nil, places-none, places-ones, places-or, places-ordered, places-set, places-xor, places-zeros, zero_places-count}
use Rattle.bitvec.specs.RowsLaws.{remainder-whole, row-first, row-kept, row-rest}
use Rattle.bitvec.specs.SeamlessLaws.{loaded-seamless, number-seamless, numbered-put, numbered-seamless, stored-seamless}
use Rattle.bitvec_segments.specs.NumberLaws.{segment-number, segment-told, segment_number-below}
use Rattle.bitvec.specs.ClosureLaws.{callable_below-always, callable_on_bits-always}
use Rattle.bitvec.specs.MatchLaws.{contained, contains-absent, prefix-bit, prefix-found, prefix-stripped, suffix-bit, suffix-stripped}
use Rattle.bitvec_slice.specs.LentLaws.{lent-none}
use Rattle.bitvec_slice.specs.SeenLaws.{length_bits}
use Rattle.bitvec_store.specs.WidthLaws.{width_some}
use Rattle.bitvec_domain.specs.FeedingLaws.{fed_same}
use Rattle.bitvec_elements.specs.OrderLaws.{ordered as orders}

-- This set closes goals about how many bits a view has: as many as its window.
pub ruleset lengths = (length_bits)

-- This set closes goals about how many bits a view and elements have: elements have `BITS` times as many.
pub ruleset sized = (lengths, length-memory_bits, length-bits_of)

-- This set closes goals after `first_one`, `last_zero` and the like: the place and what stands around it; in place also numbers there,
-- `all` and `any`; of a part of a view too.
pub ruleset found = (lengths, first_place-below, first_place-bit, first_place-before, first_place-absent, last_place-below, last_place-bit, last_place-after, last_place-absent, first_in-below, first_in-bit, first_in-before, first_in-absent, last_in-below, last_in-bit, last_in-after, last_in-absent, number-before_one, number-at_one, number-without_one, all_in-true, all_in-none, all_in-false, any_in-true, any_in-false, range-bits_in)

-- This set closes goals about the places of the ones (`places_of`): below the length, ascending, each a 1, how many, which one comes
-- `k`-th, and the places after a `set` and in two lists combined.
pub ruleset placed = (lengths, places-below, places-bit, places-ordered, places-ascend, length-places, length-zero_places, places-none, places-have, places-count, nth-below, nth-bit, nth-count, nth-rank, nth-place, zero_places-count, nth_zero-count, nth_zero-place, places-nil, places-cons, places-append, places-flipped, places-zeros, places-ones, places-set, places-cleared, places-and, places-and_not, places-or, places-xor)

-- This set closes goals about a truth value as a number: a number below 2 is one, and back.
pub ruleset flags = (flag-below, flag-fits, flag-back, flag-told, flag-same)

-- This set closes goals after a `set`: what `get` and `bits[i]` read at the index and at others, also where the index may lie past the end.
pub ruleset written = (lengths, get_or-set_at, get_or-set_other, length-set, cleared-stays, cleared-was, set-stays, set-was)

-- This set closes goals after `edit_with`: what stands before the part, in it and behind it.
pub ruleset spliced = (lengths, get-window, get-slice_range, get-write_at_below, get-write_at_inside, get-write_at_above, length-slice_range, length-window, length-write_at, length-stored, range-write_at, range-write_at_before, range-write_at_after, range-set_before, range-set_inside, range-set_after)

-- This set closes goals after `and_within`, `or_within` and `xor_within`: each bit and each range, written or beside.
pub ruleset overlaid = (lengths, get-combined_within_below, get-combined_within_inside, get-combined_within_above, length-combined_within, range-combined_within, range-combined_within_before, range-combined_within_after)

-- This set closes goals that a bit outside a range is as it was before an edit of the range.
pub ruleset outside = (get_or-set_other, get-write_at_below, get-write_at_above, get-copied_outside, get-combined_within_below, get-combined_within_above, get-filled_outside, get-flipped_outside, get-reversed_outside, get-rotated_left_outside, get-rotated_right_outside, get-moved_start_outside, get-moved_end_outside, get-joined_outside, get-numbered_outside)

-- This set closes goals that edits of one view, `BitVec`, `BitArray` or range of an array are one edit; one edit and none count as one too.
pub ruleset composed = (written-none, written-then, written-around, lent-none, width_some, owned-none, owned-then, owned-both, array-none, array-then, changes-none, changes-then, changed, outside, kept_lengths)

-- This set closes goals about `count_ones` and `count_zeros`: they make the length, and change by one after a `set`; `!` exchanges
-- them; in a range they are at most its places.
pub ruleset counted = (lengths, ones_and_zeros, ones-more, ones-fewer, zeros-more, zeros-fewer, ones-flipped, zeros-flipped, ones-in_bound, zeros-in_bound)

-- This set closes goals that the counts after `reverse`, `rotate_left` and `rotate_right` are as before.
pub ruleset moved = (lengths, ones-reversed, ones-rotated_left, ones-rotated_right, zeros-reversed, zeros-rotated_left, zeros-rotated_right)

-- This set closes goals that the ones before an index and those from it on make the ones of the view, as after `split_at`.
pub ruleset parted = (lengths, ones-front, ones-rest, ones-whole)

-- This set closes goals after `fill`: each bit, the counts, what is found, and what `all` and `any` say.
pub ruleset uniform = (lengths, get_or-replicate, ones-all, ones-none, zeros-all, zeros-none, first-filled, first-of_filled, last-filled, all-filled, any-filled)

-- This set closes goals after `eq_bits`, which is true exactly where the two lists of bits are equal.
pub ruleset compared = (same-equal, equal-same)

-- This set closes goals after `starts_with`, `ends_with`, `contains` and the strips: where the needle's bits stand.
pub ruleset matched = (lengths, is_prefix-no_longer, prefix-bit, prefix-stripped, prefix-found, is_suffix-no_longer, suffix-bit, suffix-stripped, contained, contains-absent)

-- This set closes goals about `cmp` and `<`: the order is total and agrees with `==`, and equal views feed a hasher the same bytes.
pub ruleset ordered = (orders, fed_same)

-- This set closes goals about a `BitVec` that grows: its length and memory, the bits that it begins with, what stands around its bits,
-- and its elements.
pub ruleset grown = (width_some, length-owned, owned-room, begins-own, begins-more, around-then, around-written, holds-then, held-memory, held-count)

-- This set closes goals after `insert`, `remove`, `swap_remove` and `drain` of a `BitVec`: each bit, how many, and what undoes what.
pub ruleset reindexed = (width_some, length-owned, length-inserted_one, length-removed_one, length-swap_remove, length-remove_range, get-insert_before, get-insert_at, get-insert_behind, get-remove_before, get-remove_behind, get-swap_remove_at, get-swap_remove_other, get-remove_range_before, get-remove_range_behind, remove-insert, insert-remove)

-- This set closes goals about std's adapters of a walk: they give the items that were still to come, one after the other; how
-- many pieces a view has, and each.
pub ruleset walked = (walks, length-parts, get-parts)

-- This set closes goals about the chunks of a view: joined they are its bits, and what is counted in them adds up.
pub ruleset joining = (chunks)

-- This set closes goals that one call undoes another: `reverse` twice, `!` twice, a rotation there and back.
pub ruleset undone = (lengths, reverse-reverse, flip-undoes, rotated_left-undoes, rotated_right-undoes)

-- This set closes goals about a load after a store, and a store after a load; in one element `load_le` and `load_be` agree.
pub ruleset reloaded = (lengths, loaded_le-phase, loaded_be-phase, width_some, stored_le-loads, stored_be-loads, loaded_le-stores, loaded_be-stores, loaded-one, remainder-narrow)

-- This set closes goals that two lists are one: they have one length and one number.
pub ruleset determined = (lengths, width_some, loaded_le-determines, loaded_be-determines)

-- This set closes goals about the bits of arrays of zeros: each is 0.
pub ruleset zeroed = (bits-zeros, lsb0-zeros, msb0-zeros)

-- This set closes goals about a `SliceOrder` of your own whose functions call `elements_..` and `bits_..` of `engine`.
pub ruleset own_order = (enough)

-- This set closes goals about the bits that a type of your own shows: those of its elements, of a range of them, or the first ones.
pub ruleset own_views = (bits-all, bits-range, bits-front)

-- This set closes goals about each bit and the length after edits of whole lists and of ranges, of views and in place.
pub ruleset bitwise = (lengths, kept_lengths, listed, ranged)

-- This set closes goals about the number of a range: it was stored there, lies beside an edit, or is below `2^(to - from)`; and flags.
pub ruleset fields = (lengths, kept_lengths, numbers, number-unchanged, length-stored, width_some, flags)

-- This set closes goals about what cursors wrote: each number, of a row too, bit and list stands where it was put, and all else is as
-- before; and flags.
pub ruleset cursors = (lengths, written_by, row-first, row-rest, row-kept, remainder-whole, width_some, flags)

-- This set closes goals about a stored number by its bits and parts, from its other end, or moved, and about a filled range's number.
pub ruleset portions = (lengths, kept_lengths, parts, width_some)

-- This set closes goals about the number of a range by those of two side by side, by its bits, and of one bit, zeros or ones.
pub ruleset summed = (lengths, kept_lengths, number-high_sides, number-low_sides, number-high_stored, number-low_stored, number-none, number-one, number-zeros, number-ones, get-high_number, get-low_number, width_some)

-- This set closes goals about numbers from the order's own end, `le` under `Lsb0`, `be` under `Msb0`, of views and of arrays.
pub ruleset seamless = (lengths, kept_lengths, loaded-seamless, stored-seamless, number-seamless, numbered-seamless, length-element_bits, length-slice_range, width_some)

-- This set closes goals about lists of bits as numbers: the bound, from one to the other and back, one bit more, the rest of a list and
-- the number that it begins with, and a write at the first place.
pub ruleset segmented = (segment_number-below, segment-number, segment-told, segment-push, segment-front, bits_in-rest, range-rest, left-told, left-number, left-fits, written-first, numbered-put, length-element_bits, width_some, segment-kept, segment-taken, segment-dropped, segment-shorter, segment-written, length-segment_bits, taken-below_8, taken-below_16, taken-below_32, taken-below_64, left-whole, left-passed, number-left)

-- This set closes goals about the first bits of an array with room for more: each, how many, and after an edit among them or behind.
pub ruleset fronts = (lengths, kept_lengths, length-front, get-front, front-none, front-all, front-shorter, front-longer, front-last, front-range, front-bits, front-number, front-set_inside, front-set_behind, front-set_next, front-written, front-written_inside, front-written_behind, front-filled, front-grown, front-inserted, front-removed, length-inserted, length-removed, get-inserted_behind, get-removed_behind, width_some)

-- This set closes goals about what questions of `in_place` about a range answer after an edit beside it, a `set` in it, and `fill`.
pub ruleset asked = (lengths, kept_lengths, in_range, bits_in-set, ones-in_bound, zeros-in_bound)

-- This set closes goals that a closure may be called as `fill_with`, `for_each` and splits call it, where it may always be called.
pub ruleset callable = (callable_below-always, callable_on_bits-always, may_ask_always)

-- This set closes goals where a contract says `filled`, `flipped`, `edited`, `joined` or `numbered`, and an edit of a view says `write_at`;
-- and where one says `bits_in`, and the other `slice_range`.
pub ruleset worded = (words, bits_in-range)

-- This set closes goals about words and their bits (`lsb0_bits`, `msb0_bits`): one word more, two lists joined, how many bits, zeros, the
-- words that have these bits, and lists whose windows of one width have the same numbers.
pub ruleset bytes = (lsb0-nil, lsb0-cons, lsb0-append, lsb0-push, lsb0-length, lsb0-same, lsb0-zeros, lsb0-behind, lsb0-word, msb0-nil, msb0-cons, msb0-append, msb0-push, msb0-length, msb0-same, msb0-zeros, msb0-behind, msb0-word, windows-determine)

-- This set closes goals about the first run of zeros or ones (`IsFirstRun`), which a loop looks for by `last_one` or `last_zero` of stretches.
pub ruleset fitting = (lengths, range-bits_in, last_in-below, run-none, run-end, zeros-past, zeros-here, ones-past, ones-here)
