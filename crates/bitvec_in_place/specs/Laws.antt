-- What callers name by `using`: a set of laws for each kind of question.
use Rattle.std.proofs.lemmas.Grind.{get_or-set_at}
use Rattle.std.proofs.lemmas.List.{get_or-replicate, get_or-reverse, get_or-set_other, length-map, length-replicate, length-reverse, length-set}
use Rattle.std.proofs.lemmas.List.Edits.{length-swap}
use Rattle.bitvec_base.specs.LengthLaws as lasting
use Rattle.bitvec_within.specs.CombinedLaws.{get-combined_within_above, get-combined_within_below, get-combined_within_inside, length-combined_within}
use Rattle.bitvec_base.specs.ListsLaws.{get-combined, length-combined}
use Rattle.bitvec_base.specs.MemoryLaws.{length-memory_bits}
use Rattle.bitvec_base.specs.WriteLaws.{get-write_at_above, get-write_at_below, get-write_at_inside, length-write_at}
use Rattle.bitvec_in_place.specs.ChangesLaws.{bits-unchanged, changes-combined, changes-copied, changes-filled, changes-flipped, changes-joined, changes-moved_end, changes-moved_start, changes-none, changes-numbered, changes-reversed, changes-rotated_left, changes-rotated_right, changes-set, changes-then, changes-written, number-unchanged}
use Rattle.bitvec_in_place.specs.RangesLaws.{get-filled_inside, get-filled_outside, get-flipped_inside, get-flipped_outside, get-joined_inside, get-joined_outside, get-moved_end_kept, get-moved_end_outside, get-moved_end_zero, get-moved_start_kept, get-moved_start_outside, get-moved_start_zero, get-numbered_outside, get-reversed_inside, get-reversed_outside, get-rotated_left_far, get-rotated_left_near, get-rotated_left_outside, get-rotated_right_far, get-rotated_right_near, get-rotated_right_outside, length-filled, length-flipped, length-joined, length-moved_end, length-moved_start, length-numbered, length-reversed, length-rotated_left, length-rotated_right, number-beside, number-filled, number-flipped, number-joined, number-moved_end, number-moved_start, number-reversed, number-rotated_left, number-rotated_right}
use Rattle.bitvec_within.specs.SwapsLaws.{get-swapped_back, get-swapped_front, get-swapped_outside, length-swapped}
use Rattle.bitvec_in_place.specs.MovedLaws.{length-bits_of, get-copied_inside, get-copied_outside, get-flip, get-rotated_left_early, get-rotated_left_late, get-rotated_right_early, get-rotated_right_late, get-shifted_end_kept, get-shifted_end_zero, get-shifted_start_kept, get-shifted_start_zero, get-swap_first, get-swap_other, get-swap_second, get-zero, get-zeros}
use Rattle.bitvec_in_place.specs.NumberPartsLaws.{get-numbered_inside, number-cleared, number-combined, number-copied_to, number-filled_up, number-other_end, number-part, number-swapped, number-swapped_from, number-swapped_to}
use Rattle.bitvec_in_place.specs.RangeBitsLaws.{all-in_filled, any-in_cleared, bits-combined, bits-copied, bits-filled, bits-flipped, bits-joined, bits-moved_end, bits-moved_start, bits-numbered, bits-reversed, bits-rotated_left, bits-rotated_right, bits-set, bits-swap, bits-swapped, bits-written, bits-written_here, first-in_filled, first-in_other, get-bits_in, last-in_other, length-bits_in, ones-in_cleared, ones-in_filled, zeros-in_cleared, zeros-in_filled}
use Rattle.bitvec_in_place.specs.NumbersLaws.{loaded-part_below, number-below, number-copied, number-numbered, number-set, number-stored, number-swap, number-written}

-- This set closes goals about lengths: edits of whole lists and of ranges keep them, and elements have their width times as many bits.
pub ruleset lengths = (length-memory_bits, length-bits_of, length-set, length-swap, length-write_at, length-map, length-reverse, length-replicate, length-combined, lasting.length-rotated_left, lasting.length-rotated_right, lasting.length-shifted_start, lasting.length-shifted_end, lasting.length-copied_within, length-swapped, length-combined_within, length-filled, length-flipped, length-reversed, length-rotated_left, length-rotated_right, length-moved_start, length-moved_end, length-joined, length-numbered)

-- This set closes goals about a bit at an index after edits of whole lists.
pub ruleset listed = (get_or-set_at, get_or-set_other, get-write_at_below, get-write_at_inside, get-write_at_above, get_or-replicate, get_or-reverse, get-combined, get-flip, get-rotated_left_early, get-rotated_left_late, get-rotated_right_early, get-rotated_right_late, get-shifted_start_kept, get-shifted_start_zero, get-shifted_end_zero, get-shifted_end_kept, get-copied_inside, get-copied_outside, get-combined_within_below, get-combined_within_inside, get-combined_within_above, get-swap_first, get-swap_second, get-swap_other, get-swapped_back, get-swapped_front, get-swapped_outside, get-zero, get-zeros)

-- This set closes goals about a bit at an index after edits of ranges.
pub ruleset ranged = (get-filled_outside, get-filled_inside, get-flipped_outside, get-flipped_inside, get-reversed_outside, get-reversed_inside, get-rotated_left_outside, get-rotated_left_near, get-rotated_left_far, get-rotated_right_outside, get-rotated_right_near, get-rotated_right_far, get-moved_start_outside, get-moved_start_kept, get-moved_start_zero, get-moved_end_outside, get-moved_end_zero, get-moved_end_kept, get-joined_outside, get-joined_inside, get-numbered_outside, get-numbered_inside)

-- This set closes goals about the number of a range: it was stored there, lies beside an edit, or is below a power of 2.
pub ruleset numbers = (number-stored, number-below, number-numbered, number-set, number-swap, number-written, number-copied, loaded-part_below, number-filled, number-flipped, number-reversed, number-rotated_left, number-rotated_right, number-moved_start, number-moved_end, number-joined, number-beside, number-swapped, number-combined)

-- This set closes goals about a stored number by its parts or from its other end, about a filled range's number, and a moved one.
pub ruleset parts = (number-part, number-other_end, number-cleared, number-filled_up, number-copied_to, number-swapped_to, number-swapped_from)

-- This set closes goals about the bits of a range of which questions are asked: each, how many, beside an edit, and where it was filled.
pub ruleset asked = (length-bits_in, get-bits_in, bits-filled, bits-flipped, bits-reversed, bits-rotated_left, bits-rotated_right, bits-moved_start, bits-moved_end, bits-joined, bits-numbered, bits-set, bits-swap, bits-written, bits-copied, bits-swapped, bits-combined, ones-in_filled, ones-in_cleared, zeros-in_filled, zeros-in_cleared, first-in_filled, first-in_other, last-in_other, all-in_filled, any-in_cleared)

-- This set closes goals that an edit of a range changes no bit outside it (`ChangesOnly`).
pub ruleset changed = (changes-filled, changes-flipped, changes-reversed, changes-rotated_left, changes-rotated_right, changes-moved_start, changes-moved_end, changes-joined, changes-numbered, changes-written, changes-set, changes-copied, changes-combined)

-- This set closes goals about numbers, bits and lists that were put one behind the other: each where it stands, and what is beside them.
pub ruleset put = (length-memory_bits, length-bits_of, length-set, length-write_at, length-numbered, length-bits_in, number-below, number-numbered, number-beside, number-set, number-written, number-unchanged, get_or-set_at, get_or-set_other, get-numbered_outside, get-write_at_below, get-write_at_above, bits-numbered, bits-set, bits-written, bits-written_here, bits-unchanged, changes-numbered, changes-set, changes-written, changes-none, changes-then)
