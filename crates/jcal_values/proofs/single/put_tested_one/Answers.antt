-- `jcal_values::single::put_tested_one` meets its contract.
use mathlib.Core.Path.{refl, sym, ◌∙◌}
use Rattle.octets.proofs.Pen.{front_same}
use Rattle.octets.proofs.Optional.{some-when}
use Rattle.calendar.specs.Durations.{duration_of}
use Rattle.calendar.proofs.Options.{some-map}
use Rattle.values.specs.Sorts.{is_text}
use Rattle.values.specs.Coded.{sort_said}
use Rattle.jcal_values.specs.Parts.{read_alone}
use Rattle.values.specs.Read.{read_binary, as_string, as_number, read_one}
use Rattle.values.specs.Recur.{recur_of}
use Rattle.jcal_values.proofs.OnesShown.{binary-shown, boolean-shown, duration-shown, float-shown, integer-shown, geo-shown, period-shown}
use Rattle.jcal_values.proofs.RecurShown.{recur-shown}
use Rattle.jcal_values.proofs.TestedValues.{tested}
use Rattle.jcal_values.proofs.single.put_tested_one.Goals as goal

pub returns-in-Plain : goal.returns-in-Plain
returns-in-Plain c = unfold sort_said read_alone is_text read_one in rw c.in-Plain.is c.put_tested_plain.ensures

pub returns-in-Binary : goal.returns-in-Binary
unfolding sort_said read_alone is_text read_one read_binary
returns-in-Binary c = rw c.in-Binary.is (tested _ _ _ _ _ (c.is_binary.ensures ∙ sym (some-when _ _)) (binary-shown c.args.s.now) c.put_string.ensures c.then_some.ensures)

pub returns-in-Boolean : goal.returns-in-Boolean
unfolding sort_said read_alone is_text read_one
returns-in-Boolean c = rw c.in-Boolean.is (tested _ _ _ _ _ c.is_boolean.ensures (boolean-shown c.args.s.now) c.put_boolean.ensures c.then_some-in-Boolean.ensures)

pub returns-in-Date : goal.returns-in-Date
returns-in-Date c = unfold sort_said read_alone is_text read_one as_string in rw c.in-Date.is c.put_tested_form.ensures

pub returns-in-DateTime : goal.returns-in-DateTime
returns-in-DateTime c = unfold sort_said read_alone is_text read_one as_string in rw c.in-DateTime.is c.put_tested_form-in-DateTime.ensures

pub returns-in-Duration : goal.returns-in-Duration
unfolding sort_said read_alone is_text read_one as_string duration_of
returns-in-Duration c = rw c.in-Duration.is (tested _ _ _ _ _ (c.is_duration.ensures ∙ sym (some-map _ _ ∙ some-when _ _)) (duration-shown c.args.s.now) c.put_upper_string.ensures c.then_some-in-Duration.ensures)

pub returns-in-Float : goal.returns-in-Float
unfolding sort_said read_alone is_text read_one as_number
returns-in-Float c = rw c.in-Float.is (tested _ _ _ _ _ (c.is_float.ensures ∙ sym (some-map _ _)) (float-shown c.args.s.now) c.put_float.ensures c.then_some-in-Float.ensures)

pub returns-in-Geo : goal.returns-in-Geo
unfolding sort_said read_alone is_text read_one
returns-in-Geo c = rw c.in-Geo.is (tested _ _ _ _ _ c.is_geo.ensures (geo-shown c.args.s.now) c.put_geo.ensures c.then_some-in-Geo.ensures)

pub returns-in-Integer : goal.returns-in-Integer
unfolding sort_said read_alone is_text read_one as_number
returns-in-Integer c = rw c.in-Integer.is (tested _ _ _ _ _ (c.is_integer.ensures ∙ sym (some-map _ _)) (integer-shown c.args.s.now) c.put_integer_text.ensures c.then_some-in-Integer.ensures)

pub returns-in-Period : goal.returns-in-Period
unfolding sort_said read_alone is_text read_one
returns-in-Period c = rw c.in-Period.is (tested _ _ _ _ _ c.is_period.ensures (period-shown c.args.s.now) c.put_period.ensures c.then_some-in-Period.ensures)

pub returns-in-Recur : goal.returns-in-Recur
unfolding sort_said read_alone is_text read_one recur_of
returns-in-Recur c = rw c.in-Recur.is (tested _ _ _ _ _ (c.is_rule.ensures ∙ sym (some-map _ _)) (recur-shown c.args.s.now) c.put_recur.ensures c.then_some-in-Recur.ensures)

pub returns-in-Text : goal.returns-in-Text
returns-in-Text c = unfold sort_said read_alone is_text read_one in rw c.in-Text.is (refl, front_same)

pub returns-in-Status : goal.returns-in-Status
returns-in-Status c = unfold sort_said read_alone is_text read_one in rw c.in-Status.is c.put_tested_status.ensures

pub returns-in-Time : goal.returns-in-Time
returns-in-Time c = unfold sort_said read_alone is_text read_one as_string in rw c.in-Time.is c.put_tested_form-in-Time.ensures

pub returns-in-UtcOffset : goal.returns-in-UtcOffset
returns-in-UtcOffset c = unfold sort_said read_alone is_text read_one as_string in rw c.in-UtcOffset.is c.put_tested_form-in-UtcOffset.ensures
