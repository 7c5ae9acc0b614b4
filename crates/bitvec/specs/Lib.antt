pub mod Arrays
pub mod BytesLaws
pub mod ClosureLaws
pub mod ComposedLaws
pub mod CountLaws
pub mod Domains
pub mod FitLaws
pub mod Fits
pub mod FlagLaws
pub mod FoundLaws
pub mod HeldLaws
pub mod Laws
pub mod ListNumbersLaws
pub mod MatchLaws
pub mod NthLaws
pub mod NumberSidesLaws
pub mod Operators
pub mod OwnViews
pub mod OwnViewsLaws
pub mod PartsLaws
pub mod PlacedLaws
pub mod RowsLaws
pub mod SeamlessLaws
pub mod SetLaws
pub mod Types
pub mod WindowsLaws
pub use Rattle.bitvec_base.specs.BitsFixMemory
pub use Rattle.bitvec_base.specs.Counts
pub use Rattle.bitvec_base.specs.FilledLaws
pub use Rattle.bitvec_base.specs.LengthLaws
pub use Rattle.bitvec_base.specs.Lists
pub use Rattle.bitvec_base.specs.Memory
pub use Rattle.bitvec_base.specs.Order
pub use Rattle.bitvec_base.specs.OrderLaws
pub use Rattle.bitvec_base.specs.PlacesLaws
pub use Rattle.bitvec_base.specs.Window
pub use Rattle.bitvec_base.specs.WindowLaws
pub use Rattle.bitvec_base.specs.WriteLaws
pub use Rattle.bitvec_cutting.specs.Cutting
pub use Rattle.bitvec_cutting.specs.Walks as PieceWalks
pub use Rattle.bitvec_domain.specs.Asked
pub use Rattle.bitvec_domain.specs.AskedLaws
pub use Rattle.bitvec_domain.specs.Cuts
pub use Rattle.bitvec_domain.specs.Parts
pub use Rattle.bitvec_domain.specs.Values as DomainValues
pub use Rattle.bitvec_within.specs.Swaps
pub use Rattle.bitvec_within.specs.SwapsLaws
pub use Rattle.bitvec_within.specs.Combined
pub use Rattle.bitvec_within.specs.CombinedLaws
pub use Rattle.bitvec_edit.specs.UndoLaws
pub use Rattle.bitvec_field.specs.Fields
pub use Rattle.bitvec_field.specs.DomainParts
pub use Rattle.bitvec_field.specs.DomainPartsLaws
pub use Rattle.bitvec_numbers.specs.Integers
pub use Rattle.bitvec_field.specs.IntegersLaws
pub use Rattle.bitvec_in_place.specs.ChangesLaws
pub use Rattle.bitvec_in_place.specs.Cursors
pub use Rattle.bitvec_in_place.specs.FrontLaws
pub use Rattle.bitvec_in_place.specs.Fronts
pub use Rattle.bitvec_in_place.specs.Inserted
pub use Rattle.bitvec_in_place.specs.MovedLaws
pub use Rattle.bitvec_in_place.specs.NumbersLaws
pub use Rattle.bitvec_in_place.specs.NumberPartsLaws
pub use Rattle.bitvec_in_place.specs.RangeBitsLaws
pub use Rattle.bitvec_in_place.specs.Ranges
pub use Rattle.bitvec_in_place.specs.RangesLaws
pub use Rattle.bitvec_in_place.specs.Rooms
pub use Rattle.bitvec_in_place.specs.Rows
pub use Rattle.bitvec_base.specs.ListsLaws
pub use Rattle.bitvec_base.specs.MemoryLaws
pub use Rattle.bitvec_iter.specs.Left
pub use Rattle.bitvec_iter.specs.Parts as PieceParts
pub use Rattle.bitvec_domain.specs.Kept
pub use Rattle.bitvec_domain.specs.RefillLaws
pub use Rattle.bitvec_iter.specs.LentBits
pub use Rattle.bitvec_iter.specs.Halves
pub use Rattle.bitvec_iter.specs.LentPieces
pub use Rattle.bitvec_iter.specs.LentWalk
pub use Rattle.bitvec_query.specs.Indices as OnesLeft
pub use Rattle.bitvec_places.specs.Loads
pub use Rattle.bitvec_places.specs.Places
pub use Rattle.bitvec_places.specs.Turns
pub use Rattle.bitvec_owned.specs.AroundLaws
pub use Rattle.bitvec_owned.specs.Arrays as BitArrays
pub use Rattle.bitvec_owned.specs.Copies
pub use Rattle.bitvec_owned.specs.KeptBy
pub use Rattle.bitvec_owned.specs.Owned
pub use Rattle.bitvec_owned.specs.Retained
pub use Rattle.bitvec_owned.specs.RetainedLaws
pub use Rattle.bitvec_owned.specs.SequenceLaws
pub use Rattle.bitvec_owned.specs.Writes as OwnedWrites
pub use Rattle.bitvec_closures.specs.CoversLaws as SplitCoversLaws
pub use Rattle.bitvec_closures.specs.Elements
pub use Rattle.bitvec_closures.specs.InPlace
pub use Rattle.bitvec_closures.specs.LeftLaws
pub use Rattle.bitvec_closures.specs.Pieces
pub use Rattle.bitvec_closures.specs.SplitEdits
pub use Rattle.bitvec_closures.specs.SplitEditsLaws
pub use Rattle.bitvec_closures.specs.WritesLaws
pub use Rattle.bitvec_domain.specs.References
pub use Rattle.bitvec_cells.specs.Access
pub use Rattle.bitvec_run.specs.Fold
pub use Rattle.bitvec_commands.specs.Groups
pub use Rattle.bitvec_run.specs.Runs
pub use Rattle.bitvec_run.specs.RunsLaws
pub use Rattle.bitvec_run.specs.WordRunsLaws
pub use Rattle.bitvec_engine.specs.WordSteps
pub use Rattle.bitvec_run_halves.specs.Sides
pub use Rattle.bitvec_segments.specs.LoadLaws
pub use Rattle.bitvec_segments.specs.NumberLaws
pub use Rattle.bitvec_segments.specs.PlainLaws
pub use Rattle.bitvec_segments.specs.Segments
pub use Rattle.bitvec_segments.specs.StoreLaws
pub use Rattle.bitvec_slice.specs.Indices
pub use Rattle.bitvec_slice.specs.Apart
pub use Rattle.bitvec_base.specs.Apart as ApartAt
pub use Rattle.bitvec_slice.specs.KeptLaws
pub use Rattle.bitvec_slice.specs.Seen
pub use Rattle.bitvec_slice.specs.SeenLaws
pub use Rattle.bitvec_slice.specs.Showing
pub use Rattle.bitvec_slice.specs.ShowingLaws
pub use Rattle.bitvec_slice.specs.Touched
pub use Rattle.bitvec_slice.specs.Views
pub use Rattle.bitvec_slice.specs.Walks as BitWalks
pub use Rattle.bitvec_slice.specs.Writes
pub use Rattle.bitvec_domain.specs.Predicates as SplitAsked
pub use Rattle.bitvec_domain.specs.PredicatesLaws as SplitAskedLaws
pub use Rattle.bitvec_lent_split.specs.FoundLaws as SplitFoundLaws
pub use Rattle.bitvec_lent_split.specs.Lent as SplitLent
pub use Rattle.bitvec_lent_split.specs.LentViews as SplitLentViews
pub use Rattle.bitvec_split.specs.SplitLaws
pub use Rattle.bitvec_split.specs.Splits
pub use Rattle.bitvec_split.specs.Views as SplitViews
pub use Rattle.bitvec_store.specs.Width
pub use Rattle.bitvec_store.specs.WidthLaws
pub use Rattle.bitvec_field.specs.Radix
pub use Rattle.bitvec_domain.specs.Feeding
pub use Rattle.bitvec_domain.specs.Listing
pub use Rattle.bitvec_cells.specs.Sought
pub use Rattle.bitvec_words.specs.Operator
pub use Rattle.bitvec_slice.specs.LentLaws
pub use Rattle.bitvec_slice.specs.MayLend
