-- The names that the proof of a lender cites, which gives its struct to `Lender.antt`.
pub use mathlib.Core.Path.{refl}
pub use mathlib.Core.List.{[], ◌∷◌}
pub use base.Fraction.{full_share}
pub use mir.Syntax.{a_type, dcons, dnil, erased}
pub use denote.Ref.{NamedLft}
pub use denote.Param.{layout, bounded, copied, param}
pub use denote.Param.Laws.{copied_copy, copied_laws, copy_told, param_laws}
pub use borrow.Struct.Apart.{part_apart}
