-- What a trace tells of tokens that waited.
use Rattle.std.proofs.Common.{◌≡◌, ℕ, List, [], ◌++◌, map, sym, ◌∙◌, ap, subst, append_assoc, Option}
use Rattle.std.specs.Prelude.{Result, OnOk, OnErr, ⊤}
use Rattle.std.specs.declared.result.Result.TheVariants.{Ok, Err}
use Rattle.gcx_base.specs.declared.memory.Memory.{Memory as Lack}
use Rattle.gcx_model.specs.declared.fault.DocFault.{DocFault}
use Rattle.std.proofs.lemmas.List.{append-nil, append_cancel_right, map-append}
use Rattle.gcx_model.specs.Tree.{Tree, TreeToken as Said, opening, grow_all}
use Rattle.gcx_model.specs.Core.{PlanTree}
use Rattle.gcx_model.specs.Seen.{seen_tree}
use Rattle.gcx_model.specs.Demand.{Line, demand, text_of_lines}
use Rattle.run_laws.proofs.Goes.{demand-append}
use Rattle.tree_laws.proofs.Growing.{grow_all-append}
use Rattle.doc_reader.specs.Standing.{Token, said_of}
use Rattle.engine.specs.Calls.{ToldSome, more_lines}
use Rattle.engine.specs.Engine.{OnRefusal}
use Rattle.engine.specs.Going.{lacking}
use Rattle.run_part.specs.Telling.{GrewPart}
use Rattle.run_part.proofs.Telling.{lines_behind, lines_on, part_all}
use Rattle.engine.proofs.Waiting.{on_refusal}

module _ (plan : PlanTree) where
  pub more_append : (P : Tree) (ts us : List Token) → more_lines plan P (ts ++ us) ≡ more_lines plan P ts ++ more_lines plan (grow_all (map said_of ts) P) us
  more_append P ts us = ap (λ (z : List Said). demand plan z P) (map-append said_of ts us) ∙ demand-append plan (map said_of ts) (map said_of us) P

  -- some tokens fed behind others
  pub some_on : (given more : List Token) (was mid now : List Token) (u v w : List ℕ) → was ≡ more ++ mid → ToldSome plan (seen_tree (map said_of given)) was mid u v → ToldSome plan (seen_tree (map said_of (given ++ more))) mid now v w → ToldSome plan (seen_tree (map said_of given)) was now u w
  some_on given more was mid now u v w waited a b =
      let P = seen_tree (map said_of given) in
      let same : a.more ≡ more = append_cancel_right a.more more mid (sym a.waited ∙ waited) in
      let Q : seen_tree (map said_of (given ++ more)) ≡ grow_all (map said_of a.more) P
      = ap seen_tree (map-append said_of given more) ∙ (grow_all-append (map said_of given) (map said_of more) opening ∙ ap (λ (z : List Token). grow_all (map said_of z) P) (sym same)) in
      let told : w ≡ v ++ text_of_lines (more_lines plan (grow_all (map said_of a.more) P) b.more) = b.told ∙ ap (λ (z : Tree). v ++ text_of_lines (more_lines plan z b.more)) Q in
      record {
        more = a.more ++ b.more;
        waited = a.waited ∙ (ap (λ (z : List Token). a.more ++ z) b.waited ∙ sym (append_assoc a.more b.more now));
        told = lines_on u v w (more_lines plan P a.more) (more_lines plan (grow_all (map said_of a.more) P) b.more) a.told told ∙ ap (λ (z : List Line). u ++ text_of_lines z) (sym (more_append P a.more b.more));
      }

  pub part_on : (given more : List Token) (was mid : List Token) (u v w : List ℕ) → was ≡ more ++ mid → ToldSome plan (seen_tree (map said_of given)) was mid u v → GrewPart v w (text_of_lines (more_lines plan (seen_tree (map said_of (given ++ more))) mid)) → GrewPart u w (text_of_lines (more_lines plan (seen_tree (map said_of given)) was))
  part_on given more was mid u v w waited a h =
      let P = seen_tree (map said_of given) in
      let same : a.more ≡ more = append_cancel_right a.more more mid (sym a.waited ∙ waited) in
      let Q : seen_tree (map said_of (given ++ more)) ≡ grow_all (map said_of a.more) P
      = ap seen_tree (map-append said_of given more) ∙ (grow_all-append (map said_of given) (map said_of more) opening ∙ ap (λ (z : List Token). grow_all (map said_of z) P) (sym same)) in
      let h' : GrewPart v w (text_of_lines (more_lines plan (grow_all (map said_of a.more) P) mid)) = subst (λ (z : Tree). GrewPart v w (text_of_lines (more_lines plan z mid))) Q h in
      subst (λ (z : List Token). GrewPart u w (text_of_lines (more_lines plan P z))) (sym a.waited)
      (subst (λ (z : List Line). GrewPart u w (text_of_lines z)) (sym (more_append P a.more mid)) (lines_behind u v w (more_lines plan P a.more) (more_lines plan (grow_all (map said_of a.more) P) mid) a.told h'))

-- all that waited was told, or a front of it
pub all_told : (plan : PlanTree) (P : Tree) (was now : List Token) (u v : List ℕ) (fed : Result ⊤ Lack) → OnOk fed (ToldSome plan P was now u v) → OnOk fed (now ≡ []) → OnOk fed (v ≡ u ++ text_of_lines (more_lines plan P was))
all_told plan P was now u v (Ok x) t n = t.told ∙ ap (λ (z : List Token). u ++ text_of_lines (more_lines plan P z)) (sym (t.waited ∙ (ap (λ (z : List Token). t.more ++ z) n ∙ append-nil t.more)))
all_told plan P was now u v (Err m) t n = tt

pub go_told : (o : Option DocFault) (fed : Result ⊤ Lack) (u v t : List ℕ) → OnOk fed (v ≡ u ++ t) → OnErr fed (GrewPart u v t) → OnRefusal (lacking o fed) (GrewPart u v t) (v ≡ u ++ t)
go_told o (Ok x) u v t a b = on_refusal o (part_all u v t a) a
go_told o (Err m) u v t a b = b
