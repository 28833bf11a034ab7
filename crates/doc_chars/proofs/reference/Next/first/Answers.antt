use Rattle.std.proofs.Common.{arith}
use Rattle.doc_chars.proofs.Names.{first_never}
use Rattle.doc_chars.proofs.reference.Next.first.Goals as goal

pub returns-in_default-clause-leads : goal.returns-in_default-clause-leads
returns-in_default-clause-leads c = first_never c.args.c (λ e. omega arith) (λ e. omega arith) (λ e. omega arith) (λ e. omega arith) (λ e. omega arith)
