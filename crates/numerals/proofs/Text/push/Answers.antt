use Rattle.numerals.proofs.Texts.{one_byte_more}
use Rattle.numerals.proofs.Text.push.Goals as goal

pub invariant_of-self : goal.invariant_of-self
invariant_of-self g c = one_byte_more _ _ _ c.self.view_is c.requires c.self.invariant
