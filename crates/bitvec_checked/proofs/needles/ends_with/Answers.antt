use Rattle.bitvec_checked.proofs.needles.ends_with.Goals as goal

pub ends_with_in-requires : goal.ends_with_in-requires
ends_with_in-requires g c = record { window = c.windows_status-status.ensures.window c.if-status-eq-DONE.true; right_window = c.windows_status-status.ensures.right_window c.if-status-eq-DONE.true }

pub ends_with_in-requires-in_default : goal.ends_with_in-requires-in_default
ends_with_in-requires-in_default g c = record { window = c.windows_status-status.ensures.window c.if-status-eq-DONE.true; right_window = c.windows_status-status.ensures.right_window c.if-status-eq-DONE.true }
