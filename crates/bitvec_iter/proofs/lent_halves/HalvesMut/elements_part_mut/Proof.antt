-- `elements_part_mut` of `HalvesMut` lends a range of what its first field points at, and the halves follow it. Assumes `Logic`.
use Rattle.bitvec_domain.specs.Steps.{refl, [], ◌∷◌, full_share, a_type, dcons, dnil, erased, NamedLft, layout, bounded, copied, param, copied_laws, param_laws, part_apart}
use Rattle.bitvec_domain.specs.Arity.{of_two}
use Rattle.bitvec_domain.specs.Through.{tail}
use Rattle.bitvec_domain.specs.Lender.{behind_ty, behind}
use Rattle.bitvec_domain.specs.PartLender.{lends_range}
use Rattle.bitvec_iter.specs.HalvesLending.{with_elements}
use Rattle.bitvec_iter.specs.contracts.lent_halves.HalvesMut.{struct, the_type, the_row}
use Rattle.bitvec_iter.specs.contracts.lent_halves.HalvesMut.elements_part_mut.Key.{name as #self}
use Rattle.bitvec_iter.proofs.lent_halves.HalvesMut.TheLaws.{lowered, lowers, the_loose}
use Rattle.bitvec_iter.proofs.lent_halves.HalvesMut.elements_part_mut.Statement.{statement}
use Rattle.bitvec_iter.proofs.lent_halves.HalvesMut.elements_part_mut.Code as code

pub elements_part_mut_spec : {M : Type 1} → statement M
elements_part_mut_spec 𝓤 𝓛 𝓜 𝓡 wired T O LT LO CT g gd c cd o od _ _ _ =
    let X = copied 0 T in
    let Y = param 1 O in
    let LX = copied_laws 0 T LT in
    let LY = param_laws 1 O LO in
    let N = λ (a : NamedLft). struct a X Y g o in
    lends_range T (of_two T O) (N (record { mir = erased; lft = [] })).name (behind_ty (layout (the_row (record { mir = erased; lft = [] }) X Y g o)))
    (λ a. the_row a X Y g o) (λ a. (N a).args) (λ a. (N a).types) (λ a. tail (N a).parts)
    (λ a s. (N a).as_values s) (λ a. with_elements) (λ a. the_loose a X Y g o LX LY)
    (λ a s b e. part_apart (the_type a X Y g o) full_share s ((N a).as_values s) refl b e) (λ a s ws. refl)
    (λ a. refl) (λ a s us is. ((behind (lowered a X Y g o LX LY s), (lowers a X Y g o LX LY).val_is s us is), is.1.1.0.0.1))
    𝓛 𝓜 𝓡 (#self (bounded (a_type ∷ a_type ∷ []) (T, (O, tt)) (dcons gd (dcons cd (dcons od dnil))))) (code.unfolded 𝓤 𝓛.H 𝓜 𝓡 wired (T, (O, tt)) gd cd od)
