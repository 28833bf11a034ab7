use Rattle.std.proofs.Common.{rules, arith, subst, sym, ◌≡◌, ◌<◌, ◌++◌, List, ℕ, length, take, get_or, append_assoc}
use Rattle.std.proofs.lemmas.List.{take_more}
use Rattle.doc_write.proofs.Plain.{escaped_plain, escaped_more}
use Rattle.doc_write.proofs.put_run.Goals as goal

pub returns-then-n-bytes-clause-ok : goal.returns-then-n-bytes-clause-ok
returns-then-n-bytes-clause-ok c =
    let front = take c.plain_front-n.result c.args.bytes.now in
    subst (λ (l : List ℕ). c.extend_from_slice.new.self.items ≡ c.args.out.now.items ++ l) (sym (escaped_plain front c.plain_front-n.ensures.plain)) (search rules)

pub returns-clause-ok : goal.returns-clause-ok
returns-clause-ok c =
    let n = c.plain_front-n.result in
    let bytes = c.args.bytes.now in
    let inside : n < length bytes = omega (arith, c.plain_front-n.ensures.within) in
    let more = escaped_more bytes n (get_or bytes n 0) c.plain_front-n.ensures.plain (take_more bytes n 0 inside) in
    subst (λ (l : List ℕ). c.put_byte.new.out.items ≡ c.args.out.now.items ++ l) (sym more) (search (rules, append_assoc))
