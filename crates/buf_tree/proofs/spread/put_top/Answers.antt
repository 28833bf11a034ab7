use Rattle.std.proofs.Common.{◌≡◌, ◌∙◌, ap, inl, inr, length, List, Option, Some}
use Rattle.std.specs.Prelude.{set as list_set}
use Rattle.std.proofs.lemmas.List.{length-set}
use Rattle.gcx_model.specs.declared.item.Off.{Off}
use Rattle.gcx_model.specs.ItemView.{role_kind}
use Rattle.spread_laws.specs.Tops.{is_whole_kind}
use Rattle.buf_tree.proofs.Climbing.{refilled}
use Rattle.buf_tree.proofs.Tables.{put_none, put_one}
use Rattle.buf_tree.proofs.spread.put_top.Goals as goal

pub returns-in-Own : goal.returns-in-Own
returns-in-Own c = elim c.in-Own.is [
  | inl e ↦ put_none c.args.off.now _ (ap (λ k. is_whole_kind (role_kind k)) e)
  | inr e ↦ put_none c.args.off.now _ (ap (λ k. is_whole_kind (role_kind k)) e)
]

pub returns-in_ok-top-in-Whole : goal.returns-in_ok-top-in-Whole
returns-in_ok-top-in-Whole c =
    let before = c.args.tops.now in
    let top = c.in_ok-top-in-Whole.top in
    let now : c.set_top.new.tops ≡ list_set before.items c.args.off.now.role.0 (Some top) =
    c.set_top.ensures ∙ ap (λ (ts : List (Option Off)). list_set ts c.args.off.now.role.0 (Some top)) c.deref_mut.ensures.value in
    let whole = refilled before.items c.set_top.new.tops before.len before.ok.0 (ap length now ∙ length-set before.items c.args.off.now.role.0 (Some top)) in
    rw whole (put_one c.args.off.now top before.items _ (ap (λ k. is_whole_kind (role_kind k)) c.in-Whole.is) c.in_ok-top-in-Whole.ensures now)
