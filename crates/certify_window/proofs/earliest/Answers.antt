-- `certify_window::earliest` meets its contract.
-- Assumes nothing.
use Rattle.certify_window.proofs.Window.{load_earliest, store_earliest}
use Rattle.certify_window.proofs.earliest.Goals as goal

pub returns-in-Load : goal.returns-in-Load
returns-in-Load c =
    load_earliest _ _ c.requires _ _ _ _ _ c.in-Load.is _ _ (rw (c.larger.ensures, c.load_pre-pre.ensures, c.view_of_both.ensures, c.coherence_at.ensures, (rw (c.value_of.ensures, c.value_of-in-Load.ensures) at c.address_of_sum-l.ensures.0))) (rw (rw (c.value_of.ensures, c.value_of-in-Load.ensures) at c.address_of_sum-l.ensures.0) at c.newest.ensures)

pub returns-in-Store : goal.returns-in-Store
returns-in-Store c =
    store_earliest _ _ _ _ _ _ c.in-Store.is _ _ (rw c.value_of-in-Store.ensures at c.address-l.ensures.0) c.value_of-in-Store-2.ensures _ c.next_kept.ensures
