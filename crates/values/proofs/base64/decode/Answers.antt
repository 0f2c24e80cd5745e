-- `values::base64::decode` meets its contract.
use mathlib.Core.Path.{sym, ◌∙◌}
use borrow.Author.Tests.{le-leb, lt-leb}
use Rattle.octets.proofs.Optional.{none_is}
use Rattle.values.proofs.Decoded.{absent, sent-none, sent, sent-unclean}
use Rattle.values.proofs.base64.decode.Goals as goal

pub returns-then-out-raw : goal.returns-then-out-raw
returns-then-out-raw c = rw (lt-leb _ _ c.if-out-raw.true)

pub returns-in_err-count : goal.returns-in_err-count
returns-in_err-count c = rw (c.from_residual.ensures, le-leb _ _ c.if-out-raw.false) (absent (sent-none c.args.raw.now (none_is _ c.in_err-count.ensures)))

pub returns-then-is_clean : goal.returns-then-is_clean
returns-then-is_clean c = let d = c.in_ok-count.ensures.1 in
    (le-leb _ _ c.if-out-raw.false, (d.0, sent c.args.raw.now d.1 (sym c.is_clean.ensures ∙ c.if-is_clean.true)))

pub returns-else-is_clean : goal.returns-else-is_clean
returns-else-is_clean c = let d = c.in_ok-count.ensures.1 in
    rw (le-leb _ _ c.if-out-raw.false) (absent (sent-unclean c.args.raw.now d.1 (sym c.is_clean.ensures ∙ c.if-is_clean.false)))
