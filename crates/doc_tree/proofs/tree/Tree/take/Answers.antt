use Rattle.std.proofs.Common.{◌≡◌, length, rules, inl, inr, sym, ◌∙◌, ap, arith}
use Rattle.gcx_model.specs.Tree.{grow, Tree, TreeToken, End}
use Rattle.doc_reader.specs.Standing.{said_of}
use Rattle.doc_tree.specs.Rows.{parent_of}
use Rattle.doc_tree.proofs.Taking.{started, texted, lent, ended}
use Rattle.doc_tree.proofs.tree.Tree.take.Goals as goal

grown : (T : Tree) (P Q : Tree) (t u : TreeToken) → T ≡ grow u P → P ≡ Q → t ≡ u → T ≡ grow t Q
grown T P Q t u e f g = e ∙ (ap (grow u) f ∙ ap (λ x. grow x Q) (sym g))

pub invariant_of-self-in-Start : goal.invariant_of-self-in-Start
invariant_of-self-in-Start c =
    let e : c.len.result ≡ length c.push.new.self.items = search rules in
    (started _ _ _ _ _ c.in-Start.name c.self.invariant c.in-Some.is c.in_ok-push-in-Start.ensures.items e).0

pub invariant_of-self-in-Continue-branch-2 : goal.invariant_of-self-in-Continue-branch-2
invariant_of-self-in-Continue-branch-2 c =
    let e : c.len-in-Text.result ≡ length c.self.inside.rows.items = search rules in
    (texted _ _ _ _ _ c.in-Text.text c.self.invariant c.in-Some.is (omega (arith, e)) c.in_ok-push-in-Text.ensures.items).0

pub invariant_of-self-in-End : goal.invariant_of-self-in-End
invariant_of-self-in-End c =
    (ended _ _ _ _ _ c.self.invariant c.in-Some.is (lent c.self.inside.rows.items c.deref_mut.result.now c.close-self-inside.new.rows c.self.inside.rows.len c.in-Some.parent c.deref_mut.ensures.value c.deref_mut.ensures.len c.close-self-inside.ensures.rows)
    (c.close-self-inside.ensures.parent ∙ ap (λ l. parent_of l c.in-Some.parent) c.deref_mut.ensures.value)).0

pub returns-in_ok-push-in-Start-clause-ok : goal.returns-in_ok-push-in-Start-clause-ok
returns-in_ok-push-in-Start-clause-ok c =
    let e : c.len.result ≡ length c.push.new.self.items = search rules in
    grown _ _ _ _ _ (started _ _ _ _ _ c.in-Start.name c.self.invariant c.in-Some.is c.in_ok-push-in-Start.ensures.items e).1 c.self.view_is (ap said_of c.in-Start.is)

pub returns-in_ok-push-in-Text-clause-ok : goal.returns-in_ok-push-in-Text-clause-ok
returns-in_ok-push-in-Text-clause-ok c =
    let e : c.len-in-Text.result ≡ length c.self.inside.rows.items = search rules in
    grown _ _ _ _ _ (texted _ _ _ _ _ c.in-Text.text c.self.invariant c.in-Some.is (omega (arith, e)) c.in_ok-push-in-Text.ensures.items).1 c.self.view_is (ap said_of c.in-Text.is)

pub returns-in-End-clause-ok : goal.returns-in-End-clause-ok
returns-in-End-clause-ok c =
    let e : said_of c.args.token ≡ End = elim c.in-End.is [ inl x ↦ ap said_of x | inr x ↦ ap said_of x ] in
    grown _ _ _ _ _ (ended _ _ _ _ _ c.self.invariant c.in-Some.is (lent c.self.inside.rows.items c.deref_mut.result.now c.close-self-inside.new.rows c.self.inside.rows.len c.in-Some.parent c.deref_mut.ensures.value c.deref_mut.ensures.len c.close-self-inside.ensures.rows)
    (c.close-self-inside.ensures.parent ∙ ap (λ l. parent_of l c.in-Some.parent) c.deref_mut.ensures.value)).1 c.self.view_is e
