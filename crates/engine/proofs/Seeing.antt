-- The tokens that a reader gave and those that wait, as tokens that are seen.
use Rattle.std.proofs.Common.{◌≡◌, ℕ, Bool, true, List, [], ◌∷◌, ◌++◌, map, refl, sym, ◌∙◌, ap, subst, arith, append_assoc, Some, None, Option}
use Rattle.std.proofs.lemmas.List.{append-nil, map-append}
use Rattle.std.proofs.lemmas.Bool.{and_parts}
use Rattle.gcx_base.specs.declared.limits.Limits.{Limits}
use Rattle.gcx_model.specs.declared.fault.DocFault.{DocFault}
use Rattle.gcx_model.specs.declared.fault.DocFault.TheVariants.{Utf8, Syntax, Truncated, Depth, NameLong, TextLong, TooLong, Memory}
use Rattle.gcx_model.specs.Tree.{Tree, TreeToken as Said, opening, grow}
use Rattle.gcx_model.specs.Growth.{Leads, may_come, may_all}
use Rattle.gcx_model.specs.Seen.{SeenIs, seen_tree}
use Rattle.tree_laws.proofs.Growing.{grow_all-append, leads}
use Rattle.doc_laws.proofs.TreeBounds.{seen_within}
use Rattle.doc_laws.proofs.Growing.{seen_comes}
use Rattle.doc_laws.proofs.LastTag.{seen_one}
use Rattle.doc_reader.specs.Standing.{Token, ReaderView, Stands, Gives, GivesBy, waiting, said_of}
use Rattle.engine.specs.Engine.{MayLimit}
use Rattle.run_part.specs.Actors.{ComesWithin}
use Rattle.run_part.specs.Fronts.{may_parts}

-- these tokens are seen, and perhaps more
pub record Seeing (lim : Limits) (b : List ℕ) (ended : Bool) (ts : List Said) : Type 0 where
  pub rest : List Said
  pub seen : SeenIs lim b ended (ts ++ rest)

seeing_gives : (lim : Limits) (b : List ℕ) (ended : Bool) (ts : List Token) → Gives lim b ended ts → Seeing lim b ended (map said_of ts)
seeing_gives lim b ended ts g = record { rest = []; seen = subst (λ (z : List Said). SeenIs lim b ended z) (sym (append-nil (map said_of ts))) g.seen }

seeing_by : (o : Option DocFault) (lim : Limits) (b : List ℕ) (ended : Bool) (ts : List Token) → GivesBy o lim b ended ts → Seeing lim b ended (map said_of ts)
seeing_by None lim b ended ts g = seeing_gives lim b ended ts g
seeing_by (Some Memory) lim b ended ts g = record { rest = map said_of g.rest; seen = subst (λ (z : List Said). SeenIs lim b ended z) (map-append said_of ts g.rest) g.gives.seen }
seeing_by (Some (Utf8 n)) lim b ended ts g = seeing_gives lim b ended ts g
seeing_by (Some (Syntax n)) lim b ended ts g = seeing_gives lim b ended ts g
seeing_by (Some (Truncated n)) lim b ended ts g = seeing_gives lim b ended ts g
seeing_by (Some (Depth n)) lim b ended ts g = seeing_gives lim b ended ts g
seeing_by (Some (NameLong n)) lim b ended ts g = seeing_gives lim b ended ts g
seeing_by (Some (TextLong n)) lim b ended ts g = seeing_gives lim b ended ts g
seeing_by (Some (TooLong n)) lim b ended ts g = seeing_gives lim b ended ts g

-- the tree of a front of tokens that are seen
pub front_leads : (lim : Limits) (b : List ℕ) (ended : Bool) (us more : List Said) → SeenIs lim b ended (us ++ more) → Leads opening (seen_tree us) × Leads (seen_tree us) (seen_tree (us ++ more))
front_leads lim b ended us more s =
    let p = may_parts us more opening (seen_comes lim b ended (us ++ more) s) in
    (leads us opening p.0, subst (λ (T : Tree). Leads (seen_tree us) T) (sym (grow_all-append us more opening)) (leads more (seen_tree us) p.1))

-- a token that is seen behind a front comes within limits
pub comes_within : (lim : Limits) → MayLimit lim → (b : List ℕ) (ended : Bool) (us : List Said) (t : Said) (more : List Said) → SeenIs lim b ended (us ++ t ∷ more) → ComesWithin t (seen_tree us)
comes_within lim l b ended us t more s =
    let p = may_parts us (t ∷ more) opening (seen_comes lim b ended (us ++ t ∷ more) s) in
    let q = and_parts (may_come t (seen_tree us)) (may_all more (grow t (seen_tree us))) p.1 in
    let w = seen_within lim b ended (us ++ t ∷ more) us (t ∷ more) s refl in
    let m = l.bytes in
    let d = l.depth in
    let a = w.at_most in
    record { may = q.0; nodes = omega arith; depth = λ n e. let h = w.open_elements n e in omega arith }

module _ (r : ReaderView) (lim : Limits) (b : List ℕ) (ended : Bool) (given : List Token) (s : Stands r lim b ended given) where
  pub all_of_it : Seeing lim b ended (map said_of (given ++ waiting r))
  all_of_it = seeing_by r.refused lim b ended (given ++ waiting r) s.gives

  -- those given and those that wait are seen
  pub seeing_waiting : SeenIs lim b ended (map said_of given ++ (map said_of (waiting r) ++ all_of_it.rest))
  seeing_waiting =
      subst (λ (z : List Said). SeenIs lim b ended z) (ap (λ z. z ++ all_of_it.rest) (map-append said_of given (waiting r)) ∙ append_assoc (map said_of given) (map said_of (waiting r)) all_of_it.rest) all_of_it.seen

  pub seeing : Seeing lim b ended (map said_of given)
  seeing = record { rest = map said_of (waiting r) ++ all_of_it.rest; seen = seeing_waiting }

  pub given_grew : Leads opening (seen_tree (map said_of given))
  given_grew = (front_leads lim b ended (map said_of given) seeing.rest seeing.seen).0

  -- the tree of all tokens that are seen comes from that of those given
  pub given_leads : (us : List Said) → SeenIs lim b ended us → Leads (seen_tree (map said_of given)) (seen_tree us)
  given_leads us h =
      subst (λ (z : List Said). Leads (seen_tree (map said_of given)) (seen_tree z)) (seen_one lim b ended (map said_of given ++ seeing.rest) us seeing.seen h)
      (front_leads lim b ended (map said_of given) seeing.rest seeing.seen).1

  -- the next token comes within limits
  pub next_comes : MayLimit lim → (t : Token) (ws : List Token) → waiting r ≡ t ∷ ws → ComesWithin (said_of t) (seen_tree (map said_of given))
  next_comes l t ws e =
      comes_within lim l b ended (map said_of given) (said_of t) (map said_of ws ++ all_of_it.rest)
      (subst (λ (z : List Token). SeenIs lim b ended (map said_of given ++ (map said_of z ++ all_of_it.rest))) e seeing_waiting)

-- where none waits and memory didn't run out, all that are seen were given
pub all_by : (o : Option DocFault) (lim : Limits) (b : List ℕ) (ended : Bool) (ts : List Token) → (o ≡ Some Memory → ⊥) → GivesBy o lim b ended ts → SeenIs lim b ended (map said_of ts)
all_by None lim b ended ts m g = g.seen
all_by (Some Memory) lim b ended ts m g = absurd (m refl)
all_by (Some (Utf8 n)) lim b ended ts m g = g.seen
all_by (Some (Syntax n)) lim b ended ts m g = g.seen
all_by (Some (Truncated n)) lim b ended ts m g = g.seen
all_by (Some (Depth n)) lim b ended ts m g = g.seen
all_by (Some (NameLong n)) lim b ended ts m g = g.seen
all_by (Some (TextLong n)) lim b ended ts m g = g.seen
all_by (Some (TooLong n)) lim b ended ts m g = g.seen

pub all_given : (r : ReaderView) (lim : Limits) (b : List ℕ) (ended : Bool) (given : List Token) → Stands r lim b ended given → waiting r ≡ [] → (r.refused ≡ Some Memory → ⊥) → SeenIs lim b ended (map said_of given)
all_given r lim b ended given s e m =
    subst (λ (z : List Token). SeenIs lim b ended (map said_of z)) (append-nil given)
    (subst (λ (z : List Token). SeenIs lim b ended (map said_of (given ++ z))) e (all_by r.refused lim b ended (given ++ waiting r) m s.gives))

-- the tree with the next token
pub tree_on : (given : List Token) (t : Token) → seen_tree (map said_of (given ++ t ∷ [])) ≡ grow (said_of t) (seen_tree (map said_of given))
tree_on given t = ap seen_tree (map-append said_of given (t ∷ [])) ∙ grow_all-append (map said_of given) (said_of t ∷ []) opening

-- tokens that were given may come
pub given_come : (r : ReaderView) (lim : Limits) (b : List ℕ) (ended : Bool) (given : List Token) → Stands r lim b ended given → may_all (map said_of given) opening ≡ true
given_come r lim b ended given s = let x = seeing r lim b ended given s in (may_parts (map said_of given) x.rest opening (seen_comes lim b ended (map said_of given ++ x.rest) x.seen)).0
