-- A node closed and a role taken back, in the rows that contracts see; and what the rows kept have behind an end.
use Rattle.std.proofs.Common.{◌≡◌, ℕ, Bool, false, List, [], map, refl, sym, ◌∙◌, ap, subst, inl, ◌⊎◌, Option, cond, true, not, ◌==◌}
use Rattle.gcx_model.specs.Growth.{may_come}
use Rattle.gcx_model.specs.Held.{held}
use Rattle.gcx_model.specs.Past.{Past, IsPast, past_fed}
use Rattle.gcx_model.specs.Tree.{Node, End, grow}
use Rattle.base_laws.proofs.Members.{from_map}
use Rattle.tree_laws.proofs.Lists.{In, In-filter, In-left}
use Rattle.tree_laws.proofs.Matches.{added, grow_nodes}
use Rattle.past_laws.proofs.PastForms.{past_feeds}
use Rattle.buf_tree.specs.Rows.{shut_row, untaken}
use Rattle.buf_tree.specs.Shape.{Cell, num, CellsRise, Above, with_at}
use Rattle.buf_tree.specs.Purge.{is_gone, Purged}
use Rattle.buf_tree.specs.Spread.{SpreadView, is_spread_in, seen_rows, TellsCovered}
use Rattle.buf_tree.specs.Stands.{seen, told}
use Rattle.buf_tree.specs.View.{View}
use Rattle.buf_tree.specs.Calls.{Left}
use Rattle.buf_tree.proofs.EditsSeen.{shut_purged, untaken_purged}
use Rattle.buf_tree.proofs.KeptStands.{kept_set, kept_fed, kept_nums, kept_moved}
use Rattle.buf_tree.proofs.Spreading.{Upward}

-- rows in order, each but the first below one of them
abbrev pub Stands : List Cell → Type 0
Stands ks = CellsRise ks × ((c : Cell) → In c ks → (num c ≡ 0) ⊎ Above ks c)

-- what leaves of the rows kept leaves of those seen
module _ (v w : View) (p : ℕ) (seen_v : v.rows ≡ seen_rows v.spread v.kept) (seen_w : w.rows ≡ seen_rows v.spread w.kept) (st : Stands v.kept) (st' : Stands w.kept) (cov : TellsCovered v.spread v.kept) where
  pub left_shut : Left (record v { rows = v.kept }) (record w { rows = w.kept }) (map (with_at shut_row p) v.kept) → Left v w (map (with_at shut_row p) v.rows) × TellsCovered v.spread w.kept
  left_shut l =
      let r = shut_purged v.spread p v.kept st.0 st.1 cov w.kept l.left st'.0 st'.1 l.purged in (
        record {
          left = l.left;
          gone = l.gone;
          purged = subst (λ (zs : List Cell). Purged (map (with_at shut_row p) v.rows) zs l.left) (sym seen_w) (subst (λ (zs : List Cell). Purged (map (with_at shut_row p) zs) (seen_rows v.spread w.kept) l.left) (sym seen_v) r.0);
        },
        r.1,
      )

  pub left_untaken : (k : ℕ) → is_spread_in v.spread k ≡ false → Left (record v { rows = v.kept }) (record w { rows = w.kept }) (map (with_at (untaken k) p) v.kept) → Left v w (map (with_at (untaken k) p) v.rows) × TellsCovered v.spread w.kept
  left_untaken k plain l =
      let r = untaken_purged v.spread k p plain v.kept st.0 st.1 cov w.kept l.left st'.0 st'.1 l.purged in (
        record {
          left = l.left;
          gone = l.gone;
          purged = subst (λ (zs : List Cell). Purged (map (with_at (untaken k) p) v.rows) zs l.left) (sym seen_w) (subst (λ (zs : List Cell). Purged (map (with_at (untaken k) p) zs) (seen_rows v.spread w.kept) l.left) (sym seen_v) r.0);
        },
        r.1,
      )

shut_num : (p : ℕ) (c : Cell) → num (with_at shut_row p c) ≡ num c
shut_num p c = go (c.place == p)
  where
    go : (b : Bool) → num (cond b (record { place = c.place; row = shut_row c.row }) c) ≡ num c
    go true = refl
    go false = refl

shut_roles : (p : ℕ) (c : Cell) → (with_at shut_row p c).row.roles ≡ c.row.roles
shut_roles p c = go (c.place == p)
  where
    go : (b : Bool) → (cond b (record { place = c.place; row = shut_row c.row }) c).row.roles ≡ c.row.roles
    go true = refl
    go false = refl

-- what is kept then stands for the past with the end, where what is seen does
pub keeps_closed : (s : Option SpreadView) (past : Past) → IsPast past → may_come End past.tree ≡ true → (p : ℕ) (ks ys rs' : List Cell) → Upward [] ks → map seen (seen_rows s ks) ≡ map (told past) (held past.plan past.tree past.acts)
    → map (λ c. c.row.roles) ks ≡ map (kept_set s past) (held past.plan past.tree past.acts) → (gone : List ℕ) → Purged (map (with_at shut_row p) ks) ys gone → map num ys ≡ map num rs'
    → map seen rs' ≡ map (told (past_fed End past)) (held past.plan (grow End past.tree) past.acts) → map (λ c. c.row.roles) ys ≡ map (kept_set s (past_fed End past)) (held past.plan (grow End past.tree) past.acts)
keeps_closed s past is may p ks ys rs' up rows kept gone u nums =
    kept_moved s past (past_fed End past) is (past_feeds past is End may) (λ n i. subst (λ (zs : List Node). In n zs) (sym (grow_nodes End past.tree)) (In-left n past.tree.nodes (added End past.tree) i))
    (λ n i. kept_fed s past is End n i) ks (seen_rows s ks) ys rs' (kept_nums s ks up) rows kept nums (λ c i.
    let j = (In-filter (λ (z : Cell). not (is_gone gone z)) c (map (with_at shut_row p) ks) (subst (λ (zs : List Cell). In c zs) u.leaves.rows i)).0 in
    let x = from_map (with_at shut_row p) c ks j in
    inl (x.0, x.1, sym (shut_num p x.0) ∙ ap num x.2, sym (ap (λ (z : Cell). z.row.roles) x.2) ∙ shut_roles p x.0))
