use Rattle.bitvec_checked.proofs.comparing.compare.Goals as goal

pub compare_block_in-requires : goal.compare_block_in-requires
compare_block_in-requires g c = record { window = c.windows_status-status.ensures.window c.if-status-eq-DONE.true; right_window = c.windows_status-status.ensures.right_window c.if-status-eq-DONE.true }

pub compare_block_in-requires-in_default : goal.compare_block_in-requires-in_default
compare_block_in-requires-in_default g c = record { window = c.windows_status-status.ensures.window c.if-status-eq-DONE.true; right_window = c.windows_status-status.ensures.right_window c.if-status-eq-DONE.true }
