-- Projector and machine after a token and after an action.
use Rattle.std.proofs.Common.{◌≡◌, ◌∙◌, ℕ, suc, ◌+◌, ◌≤◌, ◌^◌, true, List, [], ◌∷◌, ◌++◌, length, map, ap, refl, subst, sym, arith, append_assoc, Some}
use Rattle.std.proofs.lemmas.Bool.{and_parts}
use Rattle.gcx_model.specs.Growth.{level, may_all, may_come}
use Rattle.gcx_model.specs.Members.{In}
use Rattle.gcx_model.specs.Past.{Past}
use Rattle.gcx_model.specs.Seen.{AreWithin}
use Rattle.gcx_model.specs.Tree.{Node, Tree, TreeToken as Said, grow, grow_all, opening}
use Rattle.doc_reader.specs.Standing.{Token, said_of}
use Rattle.buf_tree.specs.Shape.{Cell}
use Rattle.buf_tree.specs.View.{View}
use Rattle.projector.specs.Calls.{Feeds}
use Rattle.projector.specs.Projector.{MayBeFed, Projects}
use Rattle.projector.specs.View.{ProjectorView}
use Rattle.projector.specs.declared.projector.Fed.{Fed}
use Rattle.pull_eval.specs.Acting.{Acts}
use Rattle.pull_eval.specs.declared.machine.Acted.{Acted}
use Rattle.pull_eval.specs.declared.machine.Acted.TheVariants as acted
use Rattle.pull_eval.specs.declared.position.Position.{Position}
use Rattle.run_part.specs.Actors.{ActorsStand, past_at}
use Rattle.run_part.proofs.Acting.{acts_by}
use Rattle.run_part.proofs.Feeding.{stands_fed}
use Rattle.run_part.proofs.RowsHeld.{shallow_rows}
use Rattle.run_part.specs.Fronts.{may_parts}
use Rattle.run_part.proofs.Taking.{Did, beside_told, told_all}
use Rattle.engine_tests.specs.Demand.{Demands}

-- conditions that are looked at anew stand for each tree
abbrev pub Always : Tree → Type 0
Always P = Unit {0}

-- the tree with a token more
grow_last : (ts : List Said) (t : Said) (P : Tree) → grow_all (ts ++ t ∷ []) P ≡ grow t (grow_all ts P)
grow_last [] t P = refl
grow_last (x ∷ ts) t P = grow_last ts t (grow x P)

module _ (p : ProjectorView) (w : Position) (v : View) (left : List Token) (h : Demands p w v left) where
  abbrev P : Tree
  P = grow_all h.fed opening

  abbrev past : Past
  past = past_at h.plan P h.taken h.stand.fed

  -- no token was left
  pub none_left : (now : List Token) → now ≡ left → Demands p w v now
  none_left now same = subst (λ (z : List Token). Demands p w v z) (sym same) h

  module _ (token : Token) (others : List Token) (first : left ≡ token ∷ others) where
    abbrev t : Said
    t = said_of token

    may : may_all (h.fed ++ t ∷ map said_of others) opening ≡ true
    may = subst (λ (z : List Token). may_all (h.fed ++ map said_of z) opening ≡ true) first h.may

    within : AreWithin (h.fed ++ t ∷ map said_of others)
    within = subst (λ (z : List Token). AreWithin (h.fed ++ map said_of z)) first h.within

    comes : may_come t P ≡ true
    comes = (and_parts (may_come t P) (may_all (map said_of others) (grow t P)) (may_parts h.fed (t ∷ map said_of others) opening may).1).0

    limits : (length P.nodes ≤ 2 ^ 40 + 1) × ((n : Node) → P.at ≡ Some n → level n ≤ 1000)
    limits = within h.fed (t ∷ map said_of others) refl

    pub fed_may : MayBeFed (Projects p) v t
    fed_may = record { past = past; stands = h.stand.beside.buffer; projects = h.stand.projects; may = comes }

    pub fed_nodes : v.nodes ≤ 2 ^ 40 + 1
    fed_nodes = let n = h.stand.beside.buffer.nodes in let l = limits.0 in omega arith

    pub fed_depth : (c : Cell) → In c v.rows → c.row.is_open ≡ true → c.row.level ≤ 1000
    fed_depth = shallow_rows v past h.stand.beside.buffer 1000 limits.1

    -- the token was fed, and its departures were noted
    pub fed_on : (q : ProjectorView) (u : View) (f : Fed) → Feeds (Projects p) q v u t f → (d : View) → d ≡ told_all u → Demands q w d others
    fed_on q u f feeds d told =
        let x = feeds.stands past h.stand.beside.buffer h.stand.projects comes in
        let s : ActorsStand h.plan Always q w (told_all u) (grow t P) h.taken
        = stands_fed h.plan Always p q w v u P h.taken t f h.stand comes (λ T l m. tt) x.0 x.1 feeds.place feeds.changes (feeds.fed past h.stand.beside.buffer h.stand.projects comes) in
        let more : (h.fed ++ t ∷ []) ++ map said_of others ≡ h.fed ++ t ∷ map said_of others = append_assoc h.fed (t ∷ []) (map said_of others) in
        record {
          plan = h.plan;
          fed = h.fed ++ t ∷ [];
          taken = h.taken;
          stand = subst (λ (T : Tree). ActorsStand h.plan Always q w d T h.taken) (sym (grow_last h.fed t opening))
              (subst (λ (z : View). ActorsStand h.plan Always q w z (grow t P) h.taken) (sym told) s);
          may = ap (λ (z : List Said). may_all z opening) more ∙ may;
          within = subst (λ (z : List Said). AreWithin z) (sym more) within;
        }

  -- ---- an action

  told : (m : Position) (u : View) (k : ℕ) → ActorsStand h.plan Always p m u P k → ActorsStand h.plan Always p m (told_all u) P k
  told m u k s = record { fed = s.fed; projects = s.projects; keeps = s.keeps; gone = refl; beside = beside_told m u (past_at h.plan P k s.fed) k s.beside; stand = s.stand }

  did_on : (m : Position) (u : View) (out new : List ℕ) (x : Acted) → Did h.plan Always p m v u P h.taken out new x → (k : ℕ) × ActorsStand h.plan Always p m (told_all u) P k
  did_on m u out new (acted.Wrote n) d = (suc h.taken, d.1)
  did_on m u out new (acted.SignedOff s r) d = (suc h.taken, d.1)
  did_on m u out new acted.Blocked d = (h.taken, told m u h.taken d.1)
  did_on m u out new acted.Finished d = (h.taken, told m u h.taken d.1)

  -- the machine took its turn, and the departures were noted
  pub acted_on : (m : Position) (u : View) (out new : List ℕ) (x : Acted) → Acts Always Always w m v u out new x → (d : View) → d ≡ told_all u → Demands p m d left
  acted_on m u out new x acts d told =
      let s = did_on m u out new x (acts_by h.plan Always Always p w m v u out new x acts P h.taken h.stand) in
      record {
        plan = h.plan;
        fed = h.fed;
        taken = s.0;
        stand = subst (λ (z : View). ActorsStand h.plan Always p m z P s.0) (sym told) s.1;
        may = h.may;
        within = h.within;
      }
