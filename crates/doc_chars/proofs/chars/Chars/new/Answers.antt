use Rattle.std.proofs.Common.{refl}
use Rattle.doc_chars.proofs.Bytes.{front_nil}
use Rattle.doc_chars.proofs.chars.Chars.new.Goals as goal

pub returns-clause-stream : goal.returns-clause-stream
returns-clause-stream c = record { decodes = record { chars = refl; bytes = refl; front = front_nil }; seen = refl }
