-- `certify_tried::noted` meets its contract: one case for each instruction.
-- Assumes nothing.
use Rattle.certify_tried.proofs.Noting.{noted_load}
use Rattle.certify_tried.proofs.noted.Goals as goal

pub returns-in-Load : goal.returns-in-Load
returns-in-Load c = noted_load _ _ _ _ _ _ _ _ _ _ c.in-Load.is _ c.of_register.ensures c.forgetting.result c.forgetting.ensures _ c.and.ensures
