-- What the words make of a map, in turn, and what they print.
use Rattle.std.specs.Prelude.{◌≡◌, ℕ, ◌&&◌, Bool, true, false, if◌then◌else◌, nat_lt, List, [], ◌∷◌, ◌++◌, length, Option, Some, None, codes, count_by, fold, replicate, slice_set}
use Rattle.std.specs.Fmt.{decimal}
use Rattle.std.specs.Io.KnownBytes.{Appends}
use Rattle.std.specs.Str.{all_ascii_digits, bytes_eq}
use Rattle.std.specs.Str.Parse.{digits_value, without_leading_plus}
use Rattle.bitvec.specs.Lists.{first_place}
use Rattle.pages.specs.declared.fault.Fault.{Fault}
use Rattle.pages.specs.declared.fault.Fault.TheVariants.{Arguments, Full}

-- the number of one or more decimal digits, where there is such a page
abbrev pub numeral_of : List ℕ → Option ℕ
numeral_of digits =
    if nat_lt 0 (length digits) && all_ascii_digits digits && nat_lt (digits_value 10 digits) 4096
    then Some (digits_value 10 digits) else None

-- a plus may stand before the digits
abbrev pub page_of : List ℕ → Option ℕ
page_of word = numeral_of (without_leading_plus word)

-- the map, what was printed, and the fault that ended the words, if one did
pub record Done : Type 0 where
  pub pages : List Bool
  pub text : List ℕ
  pub fault : Option Fault

abbrev pub prints : List Bool → ℕ → Done
prints pages number = record { pages = pages; text = decimal number ++ 10 ∷ []; fault = None }

-- `take`, which takes the first page that is free
abbrev pub take_done : List Bool → Option ℕ → Done
take_done pages None = record { pages = pages; text = []; fault = Some Full }
take_done pages (Some page) = prints (slice_set pages page true) page

-- a page that is given back
abbrev pub free_done : List Bool → Option ℕ → Done
free_done pages None = record { pages = pages; text = []; fault = Some Arguments }
free_done pages (Some page) = record { pages = slice_set pages page false; text = []; fault = None }

-- one word
abbrev pub word_done : List Bool → List ℕ → Done
word_done pages word =
    if bytes_eq word (codes "take") then take_done pages (first_place false pages)
    else if bytes_eq word (codes "taken") then prints pages (count_by (λ bit. bit) pages)
    else free_done pages (page_of word)

-- one more word, where no fault ended those before it
abbrev pub go_on : Option Fault → Done → Done → Done
go_on (Some fault) done more = done
go_on None done more = record { pages = more.pages; text = done.text ++ more.text; fault = more.fault }

unfoldable pub next : Done → List ℕ → Done
next done word = go_on done.fault done (word_done done.pages word)

-- words in turn, from a map on whose pages are all free
unfoldable pub words_done : List (List ℕ) → Done
words_done words = fold next (record { pages = replicate 4096 false; text = []; fault = None }) words

-- the lines were printed, up to this fault or, with none, all of them
pub record Prints (done : Done) (fault : Option Fault) (before after : Option (List ℕ)) : Type 0 where
  pub fault_is : done.fault ≡ fault
  pub printed : Appends before after done.text
