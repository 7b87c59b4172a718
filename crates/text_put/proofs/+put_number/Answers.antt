-- `text_put::put_number` meets its contract: a number's text is its tens' text and its last digit.
use Rattle.text_put.proofs.Texts.{put_small, put_tens}
use Rattle.text_put.proofs.+put_number.Goals as goal

pub returns-then-n-lt10 : goal.returns-then-n-lt10
returns-then-n-lt10 t c = put_small c.args.n c.if-n-lt10.true c.put_byte.ensures

pub returns : goal.returns
returns t c = put_tens c.args.n c.if-n-lt10.false c.put_number-to.ensures c.put_byte-2.ensures
