-- Litmus tests under the definitions, each computed by itself.
-- Assumes nothing.
use mathlib.Core.Path.{refl}
use mathlib.Core.List.{[], ◌∷◌}
use Rattle.cases_verdicts.specs.Cases.{Right}
use Rattle.cases_verdicts.specs.Litmus.{sb_rel_acq, sb_rel_weak, mp_plain, mp_addr, mp_ctrl, mp_ctrl_isb, mp_rel_acq, ppoca, lb_plain, lb_data, lb_rels, two_writes_sy}
use Rattle.cases_verdicts.proofs.Computed.{formed, quicks, carried}

pub sb_rel_acq_right : Right (sb_rel_acq ∷ [])
unfolding formed quicks
sb_rel_acq_right = carried (sb_rel_acq ∷ []) tt refl

pub sb_rel_weak_right : Right (sb_rel_weak ∷ [])
unfolding formed quicks
sb_rel_weak_right = carried (sb_rel_weak ∷ []) tt refl

pub mp_plain_right : Right (mp_plain ∷ [])
unfolding formed quicks
mp_plain_right = carried (mp_plain ∷ []) tt refl

pub mp_addr_right : Right (mp_addr ∷ [])
unfolding formed quicks
mp_addr_right = carried (mp_addr ∷ []) tt refl

pub mp_ctrl_right : Right (mp_ctrl ∷ [])
unfolding formed quicks
mp_ctrl_right = carried (mp_ctrl ∷ []) tt refl

pub mp_ctrl_isb_right : Right (mp_ctrl_isb ∷ [])
unfolding formed quicks
mp_ctrl_isb_right = carried (mp_ctrl_isb ∷ []) tt refl

pub mp_rel_acq_right : Right (mp_rel_acq ∷ [])
unfolding formed quicks
mp_rel_acq_right = carried (mp_rel_acq ∷ []) tt refl

pub ppoca_right : Right (ppoca ∷ [])
unfolding formed quicks
ppoca_right = carried (ppoca ∷ []) tt refl

pub lb_plain_right : Right (lb_plain ∷ [])
unfolding formed quicks
lb_plain_right = carried (lb_plain ∷ []) tt refl

pub lb_data_right : Right (lb_data ∷ [])
unfolding formed quicks
lb_data_right = carried (lb_data ∷ []) tt refl

pub lb_rels_right : Right (lb_rels ∷ [])
unfolding formed quicks
lb_rels_right = carried (lb_rels ∷ []) tt refl

pub two_writes_sy_right : Right (two_writes_sy ∷ [])
unfolding formed quicks
two_writes_sy_right = carried (two_writes_sy ∷ []) tt refl
