-- What `many` leaves of the files that aren't its OUTs, at each end.
use Rattle.std.proofs.Common.{◌≡◌, ◌≢◌, ◌∙◌, inl, inr, ℕ, zero, suc, ◌<◌, ◌≤◌, List, [], ◌∷◌, ◌+◌, length, map, slice_get, Ok, Err, Option, Some, refl, sym, ap, subst, arith}
use Rattle.std.proofs.lemmas.List.{length_push}
use Rattle.gcx_io.specs.Calls.{Attaches, Creates, GivesHandle, MissesName, fresh}
use Rattle.gcx_io.specs.Shelf.{Maps, Names, content_of}
use Rattle.gcx_io.specs.Views.{HandleView, ShelfView}
use Rattle.gcx_io.specs.declared.fault.AttachFault.{AttachFault}
use Rattle.gcx_io.specs.declared.fault.AttachFault.TheVariants as fault
use Rattle.gcx_io.specs.declared.shelf.Handle.{Handle}
use Rattle.gcx_model.specs.Members.{In}
use Rattle.gcx_words.specs.declared.pairs.Pair.{Pair}
use Rattle.many_run.specs.Files.{HaveOtherNames, LeavesTheRest, NamesStay, name_of_handle}
use Rattle.many_run.proofs.Filing.{calls_same, name_is, names_on, names_same, telling_back}
use Rattle.many_run.proofs.Walking.{not_there, some_is, there}
use Rattle.gcx_cmd.proofs.Lists.{slice_get_before}
use Rattle.gcx_cmd.proofs.Manies.{mapped}
use Rattle.gcx_cmd.specs.ManyDoes.{ManyKeeps}
use Rattle.gcx_cmd.specs.Reads.{KeepsShelf}
use Rattle.gcx_cmd.specs.declared.status.Status.TheVariants as status

one_name : (x y : List ℕ) → Some x ≡ Some y → x ≡ y
one_name x y same = cc

pub kept_on : (outs : List (List ℕ)) (a b c : ShelfView) → ManyKeeps outs a b → ManyKeeps outs b c → ManyKeeps outs a c
kept_on outs a b c f g = record {
  files = record {
    names = names_on (λ name. In name outs → ⊥) (λ name. In name outs → ⊥) (λ name. In name outs → ⊥) a.names b.names c.names (λ name other. (other, other)) f.files.names g.files.names;
    calls = λ k few. g.files.calls k (later k few) ∙ f.files.calls k few;
    left = λ telling k v w at then other.
        let few = not_there a.given k v at in
        let u = there b.given k (later k few) in
        let name : u.0.name ≡ v.name = one_name u.0.name v.name (sym (name_is b.given k u.0 u.1) ∙ (f.names_of k few ∙ name_is a.given k v at)) in
        g.files.left telling k u.0 w u.1 then (λ among. other (subst (λ (n : List ℕ). In n outs) name among))
        ∙ f.files.left (telling_back (λ n. In n outs → ⊥) b.names c.names g.files.names telling) k v u.0 at u.1 other;
  };
  names_of = λ k few. g.names_of k (later k few) ∙ f.names_of k few;
  more = let m = f.more in let n = g.more in omega (arith, m, n);
  faults = let m = f.faults in let n = g.faults in omega (arith, m, n);
  write_faults = let m = f.write_faults in let n = g.write_faults in omega (arith, m, n);
}
  where
    later : (k : ℕ) → k < length a.given → k < length b.given
    later k few = let m = f.more in omega (arith, few, m)

-- handles that stand as they did
pub kept_given : (outs : List (List ℕ)) (a b : ShelfView) → ((k : ℕ) → k < length a.given → slice_get b.given k ≡ slice_get a.given k) → NamesStay (λ name. In name outs → ⊥) a.names b.names → length a.given ≤ length b.given
    → a.faults ≤ b.faults → a.write_faults ≤ b.write_faults → ManyKeeps outs a b
kept_given outs a b given names more faults writes = record {
  files = record {
    names = names;
    calls = λ k few. calls_same a.given b.given k (given k few);
    left = λ telling k v w at then other. ap (λ (x : HandleView). x.left) (some_is (slice_get b.given k) w v then (given k (not_there a.given k v at) ∙ at));
  };
  names_of = λ k few. let v = there a.given k few in name_is b.given k v.0 (given k few ∙ v.1) ∙ sym (name_is a.given k v.0 v.1);
  more = more;
  faults = faults;
  write_faults = writes;
}

pub kept_none : (outs : List (List ℕ)) (a : ShelfView) → ManyKeeps outs a a
kept_none outs a = kept_given outs a a (λ k few. refl) (names_same (λ name. In name outs → ⊥) a.names) (omega arith) (omega arith) (omega arith)

pub kept_shelf : (outs : List (List ℕ)) (a b : ShelfView) → KeepsShelf a b → length a.given ≤ length b.given → ManyKeeps outs a b
kept_shelf outs a b k more =
    kept_given outs a b k.given (subst (λ (n : Names). NamesStay (λ name. In name outs → ⊥) a.names n) (sym k.names) (names_same (λ name. In name outs → ⊥) a.names)) more k.faults (let w = k.write_faults in omega (arith, w))

-- a file more was opened, or none was
kept_handle : (outs : List (List ℕ)) (name : List ℕ) (a b : ShelfView) (h : ℕ) (content : Option (List ℕ)) → GivesHandle name content a b h → NamesStay (λ n. In n outs → ⊥) a.names b.names → ManyKeeps outs a b
kept_handle outs name a b h content gives names =
    let one : length b.given ≡ length a.given + 1 = ap length gives.given ∙ length_push a.given (fresh name content) in
    kept_given outs a b (λ k few. ap (λ (l : List HandleView). slice_get l k) gives.given ∙ slice_get_before a.given (fresh name content) k few) names (omega (arith, one))
    (let n = gives.faults in omega (arith, n)) (let n = gives.write_faults in omega (arith, n))

kept_miss : (outs : List (List ℕ)) (name : List ℕ) (a b : ShelfView) → MissesName name a b → a.faults ≤ b.faults → a.write_faults ≤ b.write_faults → ManyKeeps outs a b
kept_miss outs name a b gone faults writes =
    let same : length b.given ≡ length a.given = ap length gone.given in
    kept_given outs a b (λ k few. ap (λ (l : List HandleView). slice_get l k) gone.given) (subst (λ (n : Names). NamesStay (λ m. In m outs → ⊥) a.names n) (sym gone.names) (names_same (λ m. In m outs → ⊥) a.names))
    (omega (arith, same)) faults writes

-- a run, from before the files were opened that it reads and writes
pub kept_run : (names : List (List ℕ)) (a begun b : ShelfView) (doc : Handle) (os : List Handle) → ManyKeeps names a begun → LeavesTheRest (λ k. k ≡ doc.0) os begun b → length a.given ≤ doc.0
    → ((i : ℕ) (o : Handle) → slice_get os i ≡ Some o → length a.given ≤ o.0) → ((n : List ℕ) → (In n names → ⊥) → HaveOtherNames begun os n) → ManyKeeps names a b
kept_run names a begun b doc os f g from_doc from_outs others = record {
  files = record {
    names = names_on (λ n. In n names → ⊥) (HaveOtherNames begun os) (λ n. In n names → ⊥) a.names begun.names b.names (λ n other. (other, others n other)) f.files.names g.names;
    calls = λ k few. g.calls k (unread k few) (unwritten k few) ∙ f.files.calls k few;
    left = λ telling k v w at then other.
        let few = not_there a.given k v at in
        let u = there begun.given k (later k few) in
        let name : u.0.name ≡ v.name = one_name u.0.name v.name (sym (name_is begun.given k u.0 u.1) ∙ (f.names_of k few ∙ name_is a.given k v at)) in
        g.left telling k u.0 w (unread k few) u.1 then (others u.0.name (λ among. other (subst (λ (n : List ℕ). In n names) name among)))
        ∙ f.files.left (telling_back (HaveOtherNames begun os) begun.names b.names g.names telling) k v u.0 at u.1 other;
  };
  names_of = λ k few. g.names_of k ∙ f.names_of k few;
  more = let m = f.more in let n = g.count in omega (arith, m, n);
  faults = let m = f.faults in let n = g.faults in omega (arith, m, n);
  write_faults = let m = f.write_faults in let n = g.write_faults in omega (arith, m, n);
}
  where
    later : (k : ℕ) → k < length a.given → k < length begun.given
    later k few = let m = f.more in omega (arith, few, m)

    unread : (k : ℕ) → k < length a.given → k ≡ doc.0 → ⊥
    unread k few same = absurd (omega (arith, few, same, from_doc))

    unwritten : (k : ℕ) → k < length a.given → (i : ℕ) (o : Handle) → slice_get os i ≡ Some o → k ≢ o.0
    unwritten k few i o at same = let l = from_outs i o at in absurd (omega (arith, few, same, l))

-- of names that no OUT has
pub other_names : (ps : List Pair) (os : List Handle) (s : ShelfView) → ((i : ℕ) (o : Handle) → slice_get os i ≡ Some o → (p : Pair) × (slice_get ps i ≡ Some p) × (name_of_handle s.given o.0 ≡ Some p.out))
    → (n : List ℕ) → (In n (map (λ p. p.out) ps) → ⊥) → HaveOtherNames s os n
other_names ps os s named n other i o at same =
    let p = named i o at in
    other (subst (λ (m : List ℕ). In m (map (λ q. q.out) ps)) (one_name p.0.out n (sym p.2 ∙ same)) (among ps i p.0 p.1))
  where
    among : (xs : List Pair) (k : ℕ) (q : Pair) → slice_get xs k ≡ Some q → In q.out (map (λ p. p.out) xs)
    among [] k q is = let no : ⊥ = cc in absurd no
    among (x ∷ xs) zero q is = inl (ap (λ (y : Pair). y.out) (one_pair x q is))
      where
        one_pair : (y z : Pair) → Some y ≡ Some z → y ≡ z
        one_pair y z e = cc
    among (x ∷ xs) (suc k) q is = inr (among xs k q is)

-- ---- one OUT

-- the names of a shelf are those that it tells
pub maps_seen : (name : List ℕ) (a b : ShelfView) (x y : Names) → a.names ≡ x → b.names ≡ y → Maps x y name [] → Maps a.names b.names name []
maps_seen name a b x y before after maps = subst (λ (n : Names). Maps n b.names name []) (sym before) (subst (λ (n : Names). Maps x n name []) (sym after) maps)

pub kept_created : (outs : List (List ℕ)) (name : List ℕ) (a b : ShelfView) (h : Handle) → In name outs → Creates name a b (Ok h) → Maps a.names b.names name [] → ManyKeeps outs a b
kept_created outs name a b h among gives maps =
    kept_handle outs name a b h.0 (content_of b.names name) gives (mapped name (λ n. In n outs → ⊥) a.names b.names (λ n other same. other (subst (λ (m : List ℕ). In m outs) (sym same) among)) maps)

pub kept_uncreated : (outs : List (List ℕ)) (name : List ℕ) (a b : ShelfView) (why : AttachFault) → Creates name a b (Err why) → a.write_faults ≤ b.write_faults → ManyKeeps outs a b
kept_uncreated outs name a b fault.Failed (gone, faults, rose) later = kept_miss outs name a b gone (omega (arith, faults)) later
kept_uncreated outs name a b fault.Memory same later = subst (λ (s : ShelfView). ManyKeeps outs a s) (sym same) (kept_none outs a)

-- ---- DOC

pub kept_attached : (outs : List (List ℕ)) (name : List ℕ) (a b : ShelfView) (h : Handle) → Attaches name a b (Ok h) → ManyKeeps outs a b
kept_attached outs name a b h (gives, names) =
    kept_handle outs name a b h.0 (content_of a.names name) gives (subst (λ (n : Names). NamesStay (λ m. In m outs → ⊥) a.names n) (sym names) (names_same (λ m. In m outs → ⊥) a.names))

pub kept_unattached : (outs : List (List ℕ)) (name : List ℕ) (a b : ShelfView) (why : AttachFault) → Attaches name a b (Err why) → a.faults ≤ b.faults → ManyKeeps outs a b
kept_unattached outs name a b fault.Failed (gone, writes, why) later = kept_miss outs name a b gone later (omega (arith, writes))
kept_unattached outs name a b fault.Memory same later = subst (λ (s : ShelfView). ManyKeeps outs a s) (sym same) (kept_none outs a)
