use Rattle.bitvec_checked.proofs.transfers.swap.Goals as goal

pub swap_with_block_in-requires : goal.swap_with_block_in-requires
swap_with_block_in-requires g c = record { window = c.equal_windows_status-status.ensures.window c.if-status-eq-DONE.true; right_window = c.equal_windows_status-status.ensures.right_window c.if-status-eq-DONE.true; lengths = c.equal_windows_status-status.ensures.lengths c.if-status-eq-DONE.true }

pub swap_with_block_in-requires-in_default : goal.swap_with_block_in-requires-in_default
swap_with_block_in-requires-in_default g c = record { window = c.equal_windows_status-status.ensures.window c.if-status-eq-DONE.true; right_window = c.equal_windows_status-status.ensures.right_window c.if-status-eq-DONE.true; lengths = c.equal_windows_status-status.ensures.lengths c.if-status-eq-DONE.true }
