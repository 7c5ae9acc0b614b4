-- `elements_part_mut` of `SplitsMut` lends a range of what its first field points at, and the split follows it. Assumes `Logic`.
use Rattle.bitvec_domain.specs.Steps.{refl, [], ◌∷◌, full_share, a_type, dcons, dnil, erased, NamedLft, layout, bounded, copied, param, copied_laws, param_laws, part_apart}
use Rattle.bitvec_domain.specs.Through.{tail}
use Rattle.bitvec_domain.specs.Arity.{of_five}
use Rattle.bitvec_domain.specs.Lender.{behind_ty}
use Rattle.bitvec_domain.specs.PartLender.{begins, lends_range}
use denote.Struct.Field.{rows}
use Rattle.bitvec_lent_split.specs.SplitsLending.{with_elements}
use Rattle.bitvec_lent_split.specs.contracts.lending.SplitsMut.{struct, the_type, the_row}
use Rattle.bitvec_lent_split.specs.contracts.lending.SplitsMut.elements_part_mut.Key.{name as #self}
use Rattle.bitvec_lent_split.proofs.lending.SplitsMut.TheLaws.{the_loose}
use Rattle.bitvec_lent_split.proofs.lending.SplitsMut.elements_part_mut.Statement.{statement}
use Rattle.bitvec_lent_split.proofs.lending.SplitsMut.elements_part_mut.Code as code

pub elements_part_mut_spec : {M : Type 1} → statement M
elements_part_mut_spec 𝓤 𝓛 𝓜 𝓡 wired T O P W L LT LO LP LW LL CT g gd c cd o od _ _ _ =
    let X = copied 0 T in
    let Y = param 1 O in
    let Z = param 2 P in
    let V = param 3 W in
    let U = param 4 L in
    let LX = copied_laws 0 T LT in
    let LY = param_laws 1 O LO in
    let LZ = param_laws 2 P LP in
    let LV = param_laws 3 W LW in
    let LU = param_laws 4 L LL in
    let N = λ (a : NamedLft). struct a X Y Z V U g o in
    lends_range T (of_five T O P W L) (N (record { mir = erased; lft = [] })).name (behind_ty (layout (the_row (record { mir = erased; lft = [] }) X Y Z V U g o)))
    (λ a. the_row a X Y Z V U g o) (λ a. (N a).args) (λ a. (N a).types) (λ a. tail (N a).parts)
    (λ a s. (N a).as_values s) (λ a. with_elements) (λ a. the_loose a X Y Z V U g o LX LY LZ LV LU)
    (λ a s b e. part_apart (the_type a X Y Z V U g o) full_share s ((N a).as_values s) refl b e) (λ a s ws. refl)
    (λ a. refl) (λ a s us is. (begins _ (rows (tail (N a).parts)) us is.0.0 is.0.1 is.1.0 is.1.1.0.0.0, is.1.1.0.0.1))
    𝓛 𝓜 𝓡 (#self (bounded (a_type ∷ a_type ∷ a_type ∷ a_type ∷ a_type ∷ []) (T, (O, (P, (W, (L, tt))))) (dcons gd (dcons cd (dcons od dnil))))) (code.unfolded 𝓤 𝓛.H 𝓜 𝓡 wired (T, (O, (P, (W, (L, tt))))) gd cd od)
