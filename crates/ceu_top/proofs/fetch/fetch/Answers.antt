use Rattle.ceu_top.proofs.Answering.{fetch_is}
use Rattle.ceu_top.proofs.fetch.fetch.Goals as goal

pub returns : goal.returns
returns g c = fetch_is (g.S.Shelf.files c.fetch.new.self) c.fetch.result c.fetch.ensures.fetched c.fetch.ensures.within c.fetch.ensures.cause c.answer_of.ensures
