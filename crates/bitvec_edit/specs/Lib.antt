pub mod UndoLaws
