use Rattle.std.proofs.Common.{rules, arith, subst, sym, ◌≡◌, ◌++◌, List, ℕ}
use Rattle.gcx_model.specs.Written.{escaped}
use Rattle.doc_write.proofs.Plain.{escaped_whole}
use Rattle.doc_write.proofs.put_text.Goals as goal

pub returns-clause-ok : goal.returns-clause-ok
returns-clause-ok c =
    let bytes = c.as_bytes-bytes.result.now in
    let new = c.extend_from_slice.new.self.items in
    let whole = escaped_whole bytes c.plain_front.result (omega arith) c.plain_front.ensures.plain in
    subst (λ (l : List ℕ). new ≡ c.args.out.now.items ++ escaped l) c.as_bytes-bytes.ensures.bytes
    (subst (λ (l : List ℕ). new ≡ c.args.out.now.items ++ l) (sym whole) (search rules))
