-- `jcal_values::raw::put_tested` meets its contract.
use mathlib.Core.Path.{sym, ◌∙◌}
use Rattle.values.specs.Coded.{sort_said}
use Rattle.jcal_values.proofs.BySort.{sorted}
use Rattle.jcal_values.proofs.raw.put_tested.Goals as goal

pub returns-then-is_text : goal.returns-then-is_text
returns-then-is_text c = rw (sorted (sort_said c.args.sort) c.args.raw.now, sym c.is_text.ensures ∙ c.if-is_text.true) c.put_tested_texts.ensures

pub returns : goal.returns
returns c = rw (sorted (sort_said c.args.sort) c.args.raw.now, sym c.is_text.ensures ∙ c.if-is_text.false) c.put_tested_list.ensures
