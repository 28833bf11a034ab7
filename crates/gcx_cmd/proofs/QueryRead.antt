-- The reading of the text of a query, so far.
use Rattle.std.proofs.Common.{◌≡◌, ◌⊎◌, inl, inr, ℕ, ◌<◌, ◌≤◌, List, [], ◌∷◌, ◌++◌, take, length, Result, Ok, Err, refl, ap, subst, ◌∙◌, arith}
use Rattle.std.proofs.lemmas.List.{length-take-le}
use Rattle.gcx_io.proofs.Written.{joined_push}
use Rattle.gcx_io.specs.Calls.{GivesHandle, ReadsOnce}
use Rattle.gcx_io.specs.Shelf.{content_of}
use Rattle.gcx_io.specs.Views.{ShelfView}
use Rattle.gcx_io.specs.Writing.{joined}
use Rattle.gcx_model.specs.declared.fault.QueryFault.TheVariants.{TooLarge}
use Rattle.gcx_model.specs.declared.fault.What.TheVariants.{Text}
use Rattle.run_words.specs.Stops.{More, EndAnswered, FaultAnswered}
use Rattle.gcx_cmd.proofs.Along.{opens_one, opens_on, reads_none, reads_more, reads_end, reads_fault, keeps_given, keeps_read, within_or_passes, passes}
use Rattle.gcx_cmd.specs.QueryDoes.{ReadsText, FailsInText, RefusesText, RunsOutInText}
use Rattle.gcx_cmd.specs.Reads.{ReadsQuery, Opens, KeepsShelf, Within, PassesIn, Calmly, most_of_query}

pub record HasRead (name text : List ℕ) (h : ℕ) (a b : ShelfView) : Type 0 where
  pub number : h ≡ length a.given
  pub opens : Opens 1 a b
  pub keeps : KeepsShelf a b
  pub pieces : List (List ℕ)
  pub reads : ReadsQuery name h a b pieces More
  pub whole : joined pieces ≡ text
  pub near : Within pieces ⊎ PassesIn pieces

pub begun : (name : List ℕ) (h : ℕ) (a b : ShelfView) → GivesHandle name (content_of a.names name) a b h → b.names ≡ a.names → HasRead name [] h a b
begun name h a b o names = record {
  number = o.number;
  opens = opens_one name a b h o;
  keeps = keeps_given name a b h o names;
  pieces = [];
  reads = reads_none name a b h o;
  whole = refl;
  near = inl (omega arith);
}

pub goes_on : {E : Type 0} (name text : List ℕ) (h n : ℕ) (a b c : ShelfView) (buf : List ℕ) → HasRead name text h a b → ReadsOnce {E = E} h b c (Ok n) buf
    → length text ≤ most_of_query → 1 ≤ n → n ≤ length buf → length buf ≡ 4096 → HasRead name (text ++ take n buf) h a c
goes_on name text h n a b c buf r once small some within size = record {
  number = r.number;
  opens = opens_on 1 h a b c (Ok n) buf r.opens once;
  keeps = keeps_read h a b c (Ok n) buf r.keeps (omega (arith, r.number)) once;
  pieces = r.pieces ++ take n buf ∷ [];
  reads = reads_more 4096 name h n a b c buf r.pieces r.reads once some within size;
  whole = joined_push r.pieces (take n buf) ∙ ap (λ (l : List ℕ). l ++ take n buf) r.whole;
  near = within_or_passes r.pieces (take n buf) (omega (arith, small, ap length r.whole)) (omega (arith, length-take-le n buf within, within, size));
}

pub ends : {E : Type 0} (name text : List ℕ) (h n : ℕ) (a b c : ShelfView) (buf : List ℕ) → HasRead name text h a b → ReadsOnce {E = E} h b c (Ok n) buf
    → n ≡ 0 → length text ≤ most_of_query → length buf ≡ 4096 → Opens 1 a c × ReadsText name text a c
ends {E = E} name text h n a b c buf r more none small size =
    let once : ReadsOnce {E = E} h b c (Ok 0) buf = subst (λ (k : ℕ). ReadsOnce {E = E} h b c (Ok k) buf) none more in (
      opens_on 1 h a b c (Ok 0) buf r.opens once,
      record {
        pieces = r.pieces;
        reads = subst (λ (k : ℕ). ReadsQuery name k a c r.pieces EndAnswered) r.number (reads_end 4096 name h a b c buf r.pieces r.reads once (omega (arith, size)) size);
        within = omega (arith, small, ap length r.whole);
        whole = r.whole;
      },
    )

pub fails : {E : Type 0} (name text : List ℕ) (h : ℕ) (e : E) (a b c : ShelfView) (buf : List ℕ) → HasRead name text h a b
    → ReadsOnce {E = E} h b c (Err e) buf → length text ≤ most_of_query → FailsInText name a c
fails name text h e a b c buf r once small =
    inr (
      opens_on 1 h a b c (Err e) buf r.opens once,
      r.pieces,
      subst (λ (k : ℕ). ReadsQuery name k a c r.pieces FaultAnswered) r.number (reads_fault 4096 name h e a b c buf r.pieces r.reads once),
      omega (arith, small, ap length r.whole),
    )

calmly : (ps : List (List ℕ)) → Within ps ⊎ PassesIn ps → Calmly ps More
calmly ps (inl within) = inl (tt, within)
calmly ps (inr passes) = inr (refl, passes)

pub runs_out : (name text : List ℕ) (h : ℕ) (a b : ShelfView) → HasRead name text h a b → RunsOutInText name a b
runs_out name text h a b r =
    inr (r.opens, r.pieces, More, subst (λ (k : ℕ). ReadsQuery name k a b r.pieces More) r.number r.reads, calmly r.pieces r.near)

pub texts : (name text text' : List ℕ) (h : ℕ) (a b : ShelfView) → text ≡ text' → HasRead name text h a b → HasRead name text' h a b
texts name text text' h a b same r = subst (λ (l : List ℕ). HasRead name l h a b) same r

-- a read of the handle changes nothing else of the shelf
pub stays : {E : Type 0} (name text : List ℕ) (h : ℕ) (a b c : ShelfView) (r : Result ℕ E) (buf : List ℕ) → HasRead name text h a b → ReadsOnce {E = E} h b c r buf → KeepsShelf a c
stays name text h a b c r buf so_far once = keeps_read h a b c r buf so_far.keeps (omega (arith, so_far.number)) once

-- there is more of it than a query may have
pub refuses : (name text : List ℕ) (h : ℕ) (a b : ShelfView) → HasRead name text h a b → most_of_query < length text → RefusesText name (TooLarge Text most_of_query) a b
refuses name text h a b r past = record {
  opens = r.opens;
  pieces = r.pieces;
  why = inr (
    subst (λ (k : ℕ). ReadsQuery name k a b r.pieces More) r.number r.reads,
    passes r.pieces r.near (omega (arith, past, ap length r.whole)),
    refl,
  );
}
