-- `poly_content::content` meets its contract.
use Rattle.poly_content.proofs.Contents.{content_unit, content_of}
use Rattle.poly_content.proofs.content.Goals as goal

pub returns-then-n-eq1 : goal.returns-then-n-eq1
returns-then-n-eq1 c = content_unit _ _ _ _ _ _ _ c.gcd-g.ensures c.size-n.ensures c.if-n-eq1.true

pub returns-else-n-eq1 : goal.returns-else-n-eq1
returns-else-n-eq1 c = content_of _ _ _ _ _ _ _ _ c.gcd-g.ensures c.gcd-h.ensures c.gcd.ensures
