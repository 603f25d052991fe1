use Rattle.std.proofs.Common.{◌∙◌, ◌≤◌, arith, length, subst}
use Rattle.std.specs.List.{All, enumerate_from}
use Rattle.std.proofs.lemmas.List.{take_all}
use Rattle.std.proofs.lemmas.List.Elements.{All-more}
use Rattle.std.proofs.lemmas.List.FromFn.{length-enumerate_from}
use Rattle.np_frac.specs.Fits.{Fits}
use Rattle.certificates.specs.Writing.{price_row}
use Rattle.certificates.proofs.WrittenRecords.{numbered-more, text-all}
use Rattle.certificates.proofs.writing.push_prices.Goals as goal

pub loop-place-preserved : goal.loop-place-preserved
loop-place-preserved c =
    let prices = c.args.prices.now in
    let place = c.loop-place.place in
    let within = c.loop-place-test.true in
    let more = numbered-more (price_row c.args.scheme.now.nodes) c.args.text.now.bytes 0 prices place place c.index-prices-place.result (omega arith) within c.index-prices-place.is in
    record {
      text = record { bytes = c.in_ok-push_price.ensures.text.bytes ∙ rw c.loop-place.invariant.text.bytes more; closed = c.in_ok-push_price.ensures.text.closed };
      fits = All-more Fits prices place c.index-prices-place.result within c.loop-place.invariant.fits (subst Fits c.index-prices-place.is c.in_ok-push_price.ensures.fits);
    }

pub returns-clause-text : goal.returns-clause-text
returns-clause-text c =
    let all = enumerate_from 0 c.args.prices.now in
    let whole : length all ≤ c.loop-place.place = omega (arith, length-enumerate_from 0 c.args.prices.now, c.loop-place-test.false) in
    record { bytes = c.loop-place.invariant.text.bytes ∙ text-all (price_row c.args.scheme.now.nodes) c.args.text.now.bytes all c.loop-place.place whole; closed = c.loop-place.invariant.text.closed }

pub returns-clause-fits : goal.returns-clause-fits
returns-clause-fits c = subst (All Fits) (take_all c.loop-place.place c.args.prices.now c.loop-place-test.false) c.loop-place.invariant.fits
