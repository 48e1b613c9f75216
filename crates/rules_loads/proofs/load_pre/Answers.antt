-- `rules_loads::load_pre` meets its contract: one case for each mode.
-- Assumes nothing.
use Rattle.rules_loads.proofs.load_pre.Goals as goal

pub returns-in-PlainLoad : goal.returns-in-PlainLoad
returns-in-PlainLoad c = rw (c.larger.ensures, c.in-PlainLoad.is)

pub returns-in-Acquire : goal.returns-in-Acquire
returns-in-Acquire c = rw (c.larger-in-Acquire-2.ensures, c.larger-in-Acquire.ensures, c.in-Acquire.is)

pub returns-in-WeakAcquire : goal.returns-in-WeakAcquire
returns-in-WeakAcquire c = rw (c.larger-in-WeakAcquire.ensures, c.in-WeakAcquire.is)
