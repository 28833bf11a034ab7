use Rattle.std.proofs.Common.{arith, refl, sym, ◌∙◌, ap, None}
use Rattle.buf_tree.specs.Row.{Row}
use Rattle.buf_tree.specs.Rows.{serials}
use Rattle.buf_tree.proofs.Keeping.{kept_planted, length_serials}
use Rattle.buf_tree.proofs.Reading.{all_left}
use Rattle.buf_tree.proofs.Starting.{planted_alone, stands_started, started_rows}
use Rattle.buf_tree.proofs.buffer.Buffer.new.Goals as goal

pub invariant_of-result : goal.invariant_of-result
invariant_of-result g c =
    let alone = planted_alone _ _ _ _ c.args.given _ c.requires.empty c.in_ok-plant_row.ensures.ok c.document.ensures (all_left _ _ _ c.in_ok-roles.ensures.held c.items.ensures.same) in (
      kept_planted _ _ _ _ _ _ c.requires.empty c.in_ok-plant_row.ensures.ok (ap (λ (r : Row). r.serial) c.document.ensures) (ap (λ (r : Row). r.is_open) c.document.ensures)
          (omega (arith, c.in_ok-reserve.ensures.ok, c.reserve.new.self.ok.0, length_serials c.reserve.new.self.items)),
      (started_rows None _ _ _ alone).1,
    )

pub returns-clause-started : goal.returns-clause-started
returns-clause-started g c =
    let alone = planted_alone _ _ _ _ c.args.given _ c.requires.empty c.in_ok-plant_row.ensures.ok c.document.ensures (all_left _ _ _ c.in_ok-roles.ensures.held c.items.ensures.same) in
    record {
      row = (c.in_ok-plant_row.field-0.0, (started_rows None _ _ _ alone).0);
      gone = ap serials (c.reserve.ensures.items ∙ c.new-gone.ensures.items);
      waiting = c.new.ensures.items;
      nodes = refl;
      taken = refl;
    }

pub returns-clause-kept : goal.returns-clause-kept
returns-clause-kept g c =
    let alone = planted_alone _ _ _ _ c.args.given _ c.requires.empty c.in_ok-plant_row.ensures.ok c.document.ensures (all_left _ _ _ c.in_ok-roles.ensures.held c.items.ensures.same) in
    alone ∙ sym (started_rows None _ _ _ alone).0

pub returns-clause-stands : goal.returns-clause-stands
returns-clause-stands g c core plan good pl e =
    let alone = planted_alone _ _ _ _ c.args.given _ c.requires.empty c.in_ok-plant_row.ensures.ok c.document.ensures (all_left _ _ _ c.in_ok-roles.ensures.held c.items.ensures.same) in
    stands_started core good plan pl _ c.args.given _ (returns-clause-started g c) alone e tt
