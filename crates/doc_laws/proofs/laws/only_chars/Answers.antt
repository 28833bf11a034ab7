use Rattle.doc_laws.proofs.Characters as from
use Rattle.doc_laws.proofs.laws.only_chars.Goals as goal

pub returns : goal.returns
returns c = from.not_char_comes
