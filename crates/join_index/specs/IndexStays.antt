-- What an index tells stays while tokens come: the proof of a law.
use Rattle.std.proofs.Common.{List}
use Rattle.gcx_model.specs.Tree.{Tree, opening}
use Rattle.gcx_model.specs.Growth.{Leads}
use Rattle.pass_laws.proofs.Stay.{lists_stay}
use Rattle.cond_memo.specs.MarkStays.{marked_stays}
use Rattle.cond_memo.specs.TakenStays.{taken_stays}
use Rattle.join_index.specs.declared.equality.Equality.{Equality}
use Rattle.join_index.specs.Index.{AreLooked, IndexView, IsIndex, outer_of}

looked_stay : (qs : List Equality) (P Q : Tree) → Leads opening P → Leads P Q → AreLooked qs P → AreLooked qs Q
looked_stay qs P Q a b are q i =
    let is = are q i in
    record {
      steps = is.steps;
      fits = is.fits;
      told = λ l e. let h = is.told l e in record { values = h.values; taken = taken_stays P Q a b q.seen h.values h.taken; none = h.none };
    }

pub index_stays : (k : IndexView) (P Q : Tree) → Leads opening P → Leads P Q → IsIndex k P → IsIndex k Q
index_stays k P Q a b is = (
  marked_stays P Q a b k.marked is.0,
  (λ q i l e. lists_stay P Q a b (outer_of q).steps l.of.0 l.values (is.1 q i l e)),
  looked_stay k.equalities P Q a b is.2,
)
