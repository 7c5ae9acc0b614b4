-- `elements_part_mut` of `PiecesMut` lends a range of what its first field points at, and the walk follows it. Assumes `Logic`.
use Rattle.bitvec_domain.specs.Steps.{refl, [], ◌∷◌, full_share, a_type, dcons, dnil, erased, NamedLft, layout, bounded, copied, param, copied_copy, copied_laws, copy_told, param_laws, part_apart}
use Rattle.bitvec_domain.specs.Through.{tail}
use Rattle.bitvec_domain.specs.Lender.{behind_ty, behind}
use Rattle.bitvec_domain.specs.PartLender.{lends_range}
use Rattle.bitvec_domain.specs.Arity.{of_three}
use Rattle.bitvec_iter.specs.PiecesLending.{with_elements}
use Rattle.bitvec_iter.specs.contracts.lent_pieces.PiecesMut.{struct, the_type, the_row}
use Rattle.bitvec_iter.specs.contracts.lent_pieces.PiecesMut.elements_part_mut.Key.{name as #self}
use Rattle.bitvec_iter.proofs.lent_pieces.PiecesMut.TheLaws.{lowered, lowers, the_loose}
use Rattle.bitvec_iter.proofs.lent_pieces.PiecesMut.elements_part_mut.Statement.{statement}
use Rattle.bitvec_iter.proofs.lent_pieces.PiecesMut.elements_part_mut.Code as code

pub elements_part_mut_spec : {M : Type 1} → statement M
elements_part_mut_spec 𝓤 𝓛 𝓜 𝓡 wired T O C LT LO LC CT CC g gd c cd o od k kd j jd _ _ _ _ _ =
    let X = copied 0 T in
    let Y = param 1 O in
    let Z = copied 2 C in
    let LX = copied_laws 0 T LT in
    let LY = param_laws 1 O LO in
    let LZ = copied_laws 2 C LC in
    let told = copy_told (copied 2 C) (copied_copy 2 C CC) in
    let N = λ (a : NamedLft). struct a X Y Z g o k in
    lends_range T (of_three T O C) (N (record { mir = erased; lft = [] })).name (behind_ty (layout (the_row (record { mir = erased; lft = [] }) X Y Z g o k)))
    (λ a. the_row a X Y Z g o k) (λ a. (N a).args) (λ a. (N a).types) (λ a. tail (N a).parts)
    (λ a s. (N a).as_values s) (λ a. with_elements) (λ a. the_loose a X Y Z g o k LX LY LZ)
    (λ a s b e. part_apart (the_type a X Y Z g o k) full_share s ((N a).as_values s) refl b e) (λ a s ws. refl)
    (λ a. refl) (λ a s us is. ((behind (lowered a X Y Z g o k LX LY LZ told s), (lowers a X Y Z g o k LX LY LZ told).val_is s us is), is.1.1.0.0.1))
    𝓛 𝓜 𝓡 (#self (bounded (a_type ∷ a_type ∷ a_type ∷ []) (T, (O, (C, tt))) (dcons gd (dcons cd (dcons od (dcons kd (dcons jd dnil))))))) (code.unfolded 𝓤 𝓛.H 𝓜 𝓡 wired (T, (O, (C, tt))) gd cd od kd jd)
