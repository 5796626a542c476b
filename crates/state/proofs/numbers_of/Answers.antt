use Rattle.state.proofs.Laws.{numbers-made}
use Rattle.state.proofs.numbers_of.Goals as goal

pub returns : goal.returns
returns c =
    numbers-made c.args.call c.put_number4.ensures c.put_number4-2.ensures c.put_number4-3.ensures c.put_number2.ensures c.put_byte.ensures
    c.put_byte-2.ensures
