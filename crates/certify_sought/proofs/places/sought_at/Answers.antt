-- `certify_sought::places::sought_at` meets its contract.
-- Assumes nothing.
use Rattle.certify_sought.proofs.places.sought_at.Goals as goal

pub returns : goal.returns
returns c = λ out l v lb vb s. (c.filling.ensures.fits l v lb vb s.0 s.1).0
