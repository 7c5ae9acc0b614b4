use Rattle.bitvec_checked.proofs.transfers.copy.Goals as goal

pub copy_from_long_block_in-requires : goal.copy_from_long_block_in-requires
copy_from_long_block_in-requires g c = record { window = c.equal_windows_status-status.ensures.window c.if-status-eq-DONE.true; right_window = c.equal_windows_status-status.ensures.right_window c.if-status-eq-DONE.true; lengths = c.equal_windows_status-status.ensures.lengths c.if-status-eq-DONE.true }

pub copy_from_long_block_in-requires-in_default-order : goal.copy_from_long_block_in-requires-in_default-order
copy_from_long_block_in-requires-in_default-order g c = record { window = c.equal_windows_status-status.ensures.window c.if-status-eq-DONE.true; right_window = c.equal_windows_status-status.ensures.right_window c.if-status-eq-DONE.true; lengths = c.equal_windows_status-status.ensures.lengths c.if-status-eq-DONE.true }
