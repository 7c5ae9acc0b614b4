-- What is asked for, by the texts of the memories, and the faults that follow.
use Rattle.std.proofs.Common.{◌≡◌, ℕ, Bool, false, true, ◌&&◌, List, Option, Some, None, is_some, IsSome, refl, ap, ◌∙◌}
use Rattle.std.proofs.Math.Bool.{and-false}
use Rattle.bitvec_base.specs.declared.window.Window.{Window}
use Rattle.bitdo_work.specs.Arguments.{Request, request, request_by_texts}
use Rattle.bitdo_work.specs.Elements.{elements_of}
use Rattle.bitdo_work.specs.Program.{HasFault, InputFault}
use Rattle.bitdo_work.specs.declared.fault.Fault.{Fault}
use Rattle.bitdo_work.specs.declared.fault.Fault.TheVariants.{Arguments, Input, Line, Memory, Run}
use Rattle.bitdo_work.proofs.OptionLaws.{none_of_is_some}

-- a fault of the input, where a run is asked for
pub HasFault-input : (request : Option Request) (old new : Option (List ℕ)) (fault : Fault) → IsSome request → InputFault old new fault → HasFault request old new fault
HasFault-input request old new Arguments some fault = absurd fault
HasFault-input request old new Input some fault = (some, fault)
HasFault-input request old new (Line number) some fault = (some, fault)
HasFault-input request old new (Run why) some fault = absurd fault
HasFault-input request old new Memory some fault = (some, fault)

module _ (b : ℕ) (at : ℕ → ℕ → ℕ) (memory right : List ℕ) (window : Window) where
  by_parts : (o p : Option (List ℕ)) → elements_of b memory ≡ o → elements_of b right ≡ p → is_some (request_by_texts b at memory right window) ≡ (is_some o && is_some p)
  unfolding request_by_texts
  by_parts None p e f = rw e refl
  by_parts (Some x) None e f = rw (e, f) refl
  by_parts (Some x) (Some y) e f = rw (e, f) refl

  pub is_some-request_by_texts : is_some (request_by_texts b at memory right window) ≡ (is_some (elements_of b memory) && is_some (elements_of b right))
  is_some-request_by_texts = by_parts (elements_of b memory) (elements_of b right) refl refl

  pub request_by_texts-is : (elements others : List ℕ) → elements_of b memory ≡ Some elements → elements_of b right ≡ Some others
      → request_by_texts b at memory right window ≡ Some (request b at elements others window)
  unfolding request_by_texts
  request_by_texts-is elements others e f = rw (e, f) refl

  -- what is asked for is there, where both texts are memories
  pub IsSome-request_by_texts : is_some (elements_of b memory) ≡ true → is_some (elements_of b right) ≡ true → IsSome (request_by_texts b at memory right window)
  IsSome-request_by_texts one other = rw (is_some-request_by_texts, one, other) refl

  -- and is not, where one is none
  pub request_by_texts-memory : is_some (elements_of b memory) ≡ false → request_by_texts b at memory right window ≡ None
  request_by_texts-memory none = none_of_is_some _ (rw (is_some-request_by_texts, none) refl)

  pub request_by_texts-right : is_some (elements_of b right) ≡ false → request_by_texts b at memory right window ≡ None
  request_by_texts-right none = none_of_is_some _ (is_some-request_by_texts ∙ ap (λ (o : Bool). is_some (elements_of b memory) && o) none ∙ and-false (is_some (elements_of b memory)))

  -- its elements are as wide as was asked
  same_bits : (given : Request) (o p : Option (List ℕ)) → elements_of b memory ≡ o → elements_of b right ≡ p → request_by_texts b at memory right window ≡ Some given → given.bits ≡ b
  unfolding request_by_texts
  same_bits given None p e f is = absurd (cc (rw e at is))
  same_bits given (Some x) None e f is = absurd (cc (rw (e, f) at is))
  same_bits given (Some x) (Some y) e f is = let h = rw (e, f) at is in let one : given ≡ request b at x y window = cc h in ap (λ (r : Request). r.bits) one

  pub request_by_texts-bits : (given : Request) → request_by_texts b at memory right window ≡ Some given → given.bits ≡ b
  request_by_texts-bits given is = same_bits given _ _ refl refl is
