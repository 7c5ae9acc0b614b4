use Rattle.bitvec_checked.proofs.transfers.or.Goals as goal

pub combine_block_in-requires : goal.combine_block_in-requires
combine_block_in-requires g c = record { window = c.windows_status-status.ensures.window c.if-status-eq-DONE.true; right_window = c.windows_status-status.ensures.right_window c.if-status-eq-DONE.true }

pub combine_block_in-requires-in_default : goal.combine_block_in-requires-in_default
combine_block_in-requires-in_default g c = record { window = c.windows_status-status.ensures.window c.if-status-eq-DONE.true; right_window = c.windows_status-status.ensures.right_window c.if-status-eq-DONE.true }
