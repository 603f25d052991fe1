use Rattle.std.proofs.Common.{◌∙◌, ◌<◌, ◌≤◌, arith, length, subst}
use Rattle.std.specs.List.{All, zip}
use Rattle.std.proofs.lemmas.List.{take_all}
use Rattle.std.proofs.lemmas.List.Elements.{All-more}
use Rattle.std.proofs.lemmas.Slice.Zip.{length-zip}
use Rattle.np_frac.specs.Fits.{Fits}
use Rattle.np_model.specs.Scheme.Names.{flow_names}
use Rattle.certificates.specs.Writing.{staged_row}
use Rattle.certificates.proofs.WrittenRecords.{paired-more, text-all}
use Rattle.certificates.proofs.writing.push_stages.Goals as goal

pub loop-place-preserved : goal.loop-place-preserved
loop-place-preserved c =
    let arcs = c.args.arcs.now in
    let amounts = c.args.amounts.now in
    let place = c.loop-place.place in
    let within : place < length amounts = omega (arith, c.requires.paired, c.loop-place-test.true) in
    let more = paired-more (staged_row c.args.word.now (flow_names c.args.scheme.now.flows)) c.args.text.now.bytes arcs amounts place c.index-arcs-place.result c.index-amounts-place.result
    c.requires.paired c.loop-place-test.true c.index-arcs-place.is c.index-amounts-place.is in
    record {
      text = record { bytes = c.in_ok-push_stage.ensures.text.bytes ∙ rw c.loop-place.invariant.text.bytes more; closed = c.in_ok-push_stage.ensures.text.closed };
      fits = All-more Fits amounts place c.index-amounts-place.result within c.loop-place.invariant.fits (subst Fits c.index-amounts-place.is c.in_ok-push_stage.ensures.fits);
    }

pub returns : goal.returns
returns c =
    let arcs = c.args.arcs.now in
    let amounts = c.args.amounts.now in
    let place = c.loop-place.place in
    let pairs : length (zip arcs amounts) ≤ place = omega (arith, length-zip arcs amounts, c.loop-place-test.false) in
    let all : length amounts ≤ place = omega (arith, c.requires.paired, c.loop-place-test.false) in
    record {
      text = record { bytes = c.loop-place.invariant.text.bytes ∙ text-all (staged_row c.args.word.now (flow_names c.args.scheme.now.flows)) c.args.text.now.bytes (zip arcs amounts) place pairs; closed = c.loop-place.invariant.text.closed };
      fits = subst (All Fits) (take_all place amounts all) c.loop-place.invariant.fits;
    }
