use Rattle.ht1130_tools.proofs.Small.{small_applied}
use Rattle.ht1130_tools.proofs.scripts.ht1130_run_script.Goals as goal

pub packed-requires : goal.packed-requires
packed-requires c = small_applied _ _ _ _ _ c.apply_script.ensures
