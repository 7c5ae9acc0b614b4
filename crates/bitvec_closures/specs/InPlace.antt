-- A writable view that stays in its place, or is moved to another.
use Rattle.std.specs.Prelude.{◌≡◌, Bool, List, length}
use Rattle.std.specs.Borrow.{GName}
use Rattle.bitvec_base.specs.declared.window.Window.{Window}
use Rattle.bitvec_slice.specs.Seen.{Seen, outside_of}

-- what a view shows, and which memory it borrows
module _ {V T : Type 0} (shows : V → Seen T) (named : V → GName) where
  -- The view `after` stands at the window `place` of the same memory as before.
  pub record StandsAt (before : V) (place : Window) (after : V) : Type 0 where
    pub window : (shows after).window ≡ place
    pub memory : (shows after).memory ≡ (shows before).memory
    pub elements : length (shows after).elements ≡ length (shows before).elements
    pub name : named after ≡ named before

  -- The bits outside the view, its window and the memory that it borrows are as before.
  pub record StaysInPlace (before after : V) : Type 0 where
    pub outside : outside_of (shows after) ≡ outside_of (shows before)
    pub window : (shows after).window ≡ (shows before).window
    pub elements : length (shows after).elements ≡ length (shows before).elements
    pub name : named after ≡ named before

  -- The view has the bits `new`, and the bits outside it, its window and its memory's name are as before.
  pub record WritesInPlace (before after : V) (new : List Bool) : Type 0 where
    pub bits : (shows after).bits ≡ new
    pub stays : StaysInPlace before after
