-- The segments of a flow, as a loop over its bands finds them.
use Rattle.std.specs.Prelude.{◌≡◌, ℕ, ◌+◌, ◌-◌, ◌<◌, ◌≤◌, ◌&&◌, Bool, true, false, if◌then◌else◌, Option, Some, None, Result, Ok, Err, IsOk, List, [], ◌∷◌, length, zero, suc}
use Rattle.std.specs.List.{list_all, slice_get}
use Rattle.std.proofs.Common.{refl, sym, ap, subst, ◌∙◌, arith, get_or, drop, add-one}
use Rattle.std.proofs.lemmas.List.{drop_all}
use Rattle.std.proofs.lemmas.Option.{get_or_from_slice_get}
use Rattle.std.proofs.Math.Seq.{drop-cons}
use Rattle.np_frac.specs.Ratio.{Ratio, is_below}
use Rattle.np_frac.specs.Exact.{plus_of, minus_of, times_of, ◌▷◌}
use Rattle.np_frac.specs.declared.frac.Past.{Past}
use Rattle.np_frac.proofs.Folds.{bind_same, bind_twice}
use Rattle.np_model.specs.declared.arc.Upper.{Upper}
use Rattle.np_model.specs.declared.arc.Upper.TheVariants.{Finite, Infinite}
use Rattle.np_model.specs.declared.scheme.Band.{Band}
use Rattle.np_model.specs.Scheme.Segments.{Segment as TheSegment, end_after, segments_beyond, last_end, last_slope}
use Rattle.np_model.specs.Network.Arcs.{lesser, is_finite}
use Rattle.cert_checker.specs.Walk.{or_then, first_refusal, goes_on_unless, end_of, add_segments}
use Rattle.cert_checker.specs.Steps.Parts.{end_beyond, segment_beyond, add_segment}
use Rattle.cert_checker.specs.declared.answer.CheckRefusal.{CheckRefusal}
use Rattle.cert_checker.proofs.Exact.{band_exact}

-- ---- ends

end_infinite : (bands : List Band) → end_of Infinite bands ≡ Ok Infinite
end_infinite [] = refl
end_infinite (b ∷ bs) = refl

end_step : (end : Upper) (b : Band) (bs : List Band) → end_of end (b ∷ bs) ≡ end_beyond end b.width ▷ λ next. end_of next bs
end_step (Finite e) b bs = refl
end_step Infinite b bs = sym (end_infinite bs)

next_band : (bands : List Band) (i : ℕ) (b : Band) → i < length bands → b ≡ get_or bands i b → drop i bands ≡ b ∷ drop (i + 1) bands
next_band bands i b h e = drop-cons bands i b h ∙ rw (← e, add-one) refl

pub ends_on : (bands : List Band) (i : ℕ) (b : Band) (end next : Upper) (whole : Result Upper Past) → i < length bands → b ≡ get_or bands i b → whole ≡ end_of end (drop i bands) → end_beyond end b.width ≡ Ok next
    → whole ≡ end_of next (drop (i + 1) bands)
ends_on bands i b end next whole h e so_far here =
    so_far ∙ ap (end_of end) (next_band bands i b h e) ∙ end_step end b (drop (i + 1) bands) ∙ ap (λ (r : Result Upper Past). r ▷ λ u. end_of u (drop (i + 1) bands)) here

pub ends_stop : (bands : List Band) (i : ℕ) (b : Band) (end : Upper) (p : Past) (whole : Result Upper Past) → i < length bands → b ≡ get_or bands i b → whole ≡ end_of end (drop i bands) → end_beyond end b.width ≡ Err p → Err p ≡ whole
ends_stop bands i b end p whole h e so_far here =
    sym (so_far ∙ ap (end_of end) (next_band bands i b h e) ∙ end_step end b (drop (i + 1) bands) ∙ ap (λ (r : Result Upper Past). r ▷ λ u. end_of u (drop (i + 1) bands)) here)

pub ends_end : (bands : List Band) (i : ℕ) (end : Upper) (whole : Result Upper Past) → length bands ≤ i → whole ≡ end_of end (drop i bands) → Ok end ≡ whole
ends_end bands i end whole h so_far = sym (so_far ∙ ap (end_of end) (drop_all i bands h))

pub finite_last : (upper : Upper) (bands : List Band) → is_finite (last_end upper bands) ≡ (is_finite upper && list_all (λ band. is_finite band.width) bands)
finite_last (Finite u) [] = refl
finite_last Infinite [] = refl
finite_last Infinite (b ∷ bs) = refl
finite_last (Finite u) (b ∷ bs) = finite_last (end_after u b.width) bs ∙ ap (λ (t : Bool). t && list_all (λ band. is_finite band.width) bs) (same u b.width)
  where
    same : (start : Ratio) (width : Upper) → is_finite (end_after start width) ≡ is_finite width
    same start (Finite w) = refl
    same start Infinite = refl

-- ---- segments

pub segment_found : (start : Ratio) (band : Band) (end : Upper) → end_beyond (Finite start) band.width ≡ Ok end
    → Some (record { start = start; end = end; slope = band.slope }) ≡ segment_beyond (Finite start) band
segment_found start band end e = ap (λ (u : Upper). Some (record { start = start; end = u; slope = band.slope })) (band_exact start band.width end e)

found_ok : {A B : Type 0} (r : Result A Past) (f : A → Result B Past) → IsOk (r ▷ f) → IsOk r
found_ok (Ok x) f h = refl
found_ok (Err p) f h = absurd (cc h)

-- what is known at a place of a loop over the bands
pub band_ok : (bands : List Band) (i : ℕ) (b : Band) (end : Upper) → i < length bands → b ≡ get_or bands i b → IsOk (end_of end (drop i bands)) → IsOk (end_beyond end b.width)
band_ok bands i b end h e ok =
    found_ok (end_beyond end b.width) (λ u. end_of u (drop (i + 1) bands))
    (subst (λ (r : Result Upper Past). IsOk r) (ap (end_of end) (next_band bands i b h e) ∙ end_step end b (drop (i + 1) bands)) ok)

ok_on : (end : Upper) (b : Band) (bs : List Band) (g : TheSegment) → segment_beyond end b ≡ Some g → IsOk (end_beyond end b.width ▷ λ u. end_of u bs) → IsOk (end_of g.end bs)
ok_on Infinite b bs g e ok = absurd (cc e)
ok_on (Finite u) b bs g e ok =
    let same : end_after u b.width ≡ g.end = ap (λ (o : Option TheSegment). end_or (Finite u) o) e in
    by_found (end_beyond (Finite u) b.width) refl ok same
  where
    end_or : Upper → Option TheSegment → Upper
    end_or d None = d
    end_or d (Some s) = s.end

    by_found : (r : Result Upper Past) → end_beyond (Finite u) b.width ≡ r → IsOk (r ▷ λ z. end_of z bs) → end_after u b.width ≡ g.end → IsOk (end_of g.end bs)
    by_found (Ok z) f h same = subst (λ (y : Upper). IsOk (end_of y bs)) (band_exact u b.width z f ∙ same) h
    by_found (Err p) f h same = absurd (cc h)

pub bands_ok : (bands : List Band) (i : ℕ) (b : Band) (end : Upper) (g : TheSegment) → i < length bands → b ≡ get_or bands i b → IsOk (end_of end (drop i bands)) → segment_beyond end b ≡ Some g → IsOk (end_of g.end (drop (i + 1) bands))
bands_ok bands i b end g h e ok found =
    ok_on end b (drop (i + 1) bands) g found (subst (λ (r : Result Upper Past). IsOk r) (ap (end_of end) (next_band bands i b h e) ∙ end_step end b (drop (i + 1) bands)) ok)

segments_on : (end : Upper) (b : Band) (bs : List Band) (g : TheSegment) → segment_beyond end b ≡ Some g → segments_beyond end (b ∷ bs) ≡ g ∷ segments_beyond g.end bs
segments_on Infinite b bs g e = absurd (cc e)
segments_on (Finite u) b bs g e =
    let same : record { start = u; end = end_after u b.width; slope = b.slope } ≡ g = cc e in
    ap (λ (s : TheSegment). s ∷ segments_beyond s.end bs) same

segments_stop : (end : Upper) (b : Band) (bs : List Band) → segment_beyond end b ≡ None → segments_beyond end (b ∷ bs) ≡ []
segments_stop Infinite b bs e = refl
segments_stop (Finite u) b bs e = absurd (cc e)

pub next_segments : (bands : List Band) (i : ℕ) (b : Band) (end : Upper) (g : TheSegment) → i < length bands → b ≡ get_or bands i b → segment_beyond end b ≡ Some g
    → segments_beyond end (drop i bands) ≡ g ∷ segments_beyond g.end (drop (i + 1) bands)
next_segments bands i b end g h e found = ap (segments_beyond end) (next_band bands i b h e) ∙ segments_on end b (drop (i + 1) bands) g found

pub no_segments : (bands : List Band) (i : ℕ) (b : Band) (end : Upper) → i < length bands → b ≡ get_or bands i b → segment_beyond end b ≡ None → segments_beyond end (drop i bands) ≡ []
no_segments bands i b end h e found = ap (segments_beyond end) (next_band bands i b h e) ∙ segments_stop end b (drop (i + 1) bands) found

pub past_segments : (bands : List Band) (i : ℕ) (end : Upper) → length bands ≤ i → segments_beyond end (drop i bands) ≡ []
past_segments bands i end h = ap (segments_beyond end) (drop_all i bands h) ∙ none end
  where
    none : (u : Upper) → segments_beyond u [] ≡ []
    none u = refl

-- ---- the first refusal in the segments

module _ (f : TheSegment → Option CheckRefusal) (whole : Option CheckRefusal) (bands : List Band) (i : ℕ) (end : Upper) (so_far : whole ≡ first_refusal f (segments_beyond end (drop i bands))) where
  pub refusal_on : (b : Band) (g : TheSegment) → i < length bands → b ≡ get_or bands i b → Some g ≡ segment_beyond end b → f g ≡ None → whole ≡ first_refusal f (segments_beyond g.end (drop (i + 1) bands))
  refusal_on b g h e found here =
      so_far ∙ ap (first_refusal f) (next_segments bands i b end g h e (sym found)) ∙ ap (λ (o : Option CheckRefusal). or_then o (first_refusal f (segments_beyond g.end (drop (i + 1) bands)))) here

  pub refusal_stop : (b : Band) (g : TheSegment) (r : CheckRefusal) → i < length bands → b ≡ get_or bands i b → Some g ≡ segment_beyond end b → f g ≡ Some r → Err r ≡ goes_on_unless whole
  refusal_stop b g r h e found here =
      sym (ap goes_on_unless (so_far ∙ ap (first_refusal f) (next_segments bands i b end g h e (sym found)) ∙ ap (λ (o : Option CheckRefusal). or_then o (first_refusal f (segments_beyond g.end (drop (i + 1) bands)))) here))

  pub refusal_none : (b : Band) → i < length bands → b ≡ get_or bands i b → None ≡ segment_beyond end b → Ok tt ≡ goes_on_unless whole
  refusal_none b h e found = sym (ap goes_on_unless (so_far ∙ ap (first_refusal f) (no_segments bands i b end h e (sym found))))

  pub refusal_end : length bands ≤ i → Ok tt ≡ goes_on_unless whole
  refusal_end h = sym (ap goes_on_unless (so_far ∙ ap (first_refusal f) (past_segments bands i end h)))

-- ---- the running cost

cost_step : (x : Ratio) (g : TheSegment) (gs : List TheSegment) (running : Ratio) → add_segments x (g ∷ gs) running ≡ add_segment x g running ▷ add_segments x gs
cost_step x g gs running = by_test (is_below g.start x)
  where
    by_test : (t : Bool) → (if t then (minus_of (lesser x g.end) g.start ▷ λ part. times_of g.slope part ▷ λ cost. plus_of running cost ▷ λ sum. add_segments x gs sum) else add_segments x gs running)
        ≡ (if t then (minus_of (lesser x g.end) g.start ▷ λ part. times_of g.slope part ▷ λ cost. plus_of running cost) else Ok running) ▷ add_segments x gs
    by_test false = refl
    by_test true =
        bind_same (minus_of (lesser x g.end) g.start) _ _ (λ part. sym (bind_twice (times_of g.slope part) (plus_of running) (add_segments x gs)))
        ∙ sym (bind_twice (minus_of (lesser x g.end) g.start) (λ part. times_of g.slope part ▷ plus_of running) (add_segments x gs))

module _ (x : Ratio) (whole : Result Ratio Past) (bands : List Band) (i : ℕ) (end : Upper) (old : Ratio) (so_far : whole ≡ add_segments x (segments_beyond end (drop i bands)) old) where
  so_on : (b : Band) (g : TheSegment) → i < length bands → b ≡ get_or bands i b → Some g ≡ segment_beyond end b → whole ≡ add_segment x g old ▷ add_segments x (segments_beyond g.end (drop (i + 1) bands))
  so_on b g h e found =
      so_far ∙ ap (λ (gs : List TheSegment). add_segments x gs old) (next_segments bands i b end g h e (sym found)) ∙ cost_step x g (segments_beyond g.end (drop (i + 1) bands)) old

  pub cost_on : (b : Band) (g : TheSegment) (new : Ratio) → i < length bands → b ≡ get_or bands i b → Some g ≡ segment_beyond end b → add_segment x g old ≡ Ok new → whole ≡ add_segments x (segments_beyond g.end (drop (i + 1) bands)) new
  cost_on b g new h e found here = so_on b g h e found ∙ ap (λ (r : Result Ratio Past). r ▷ add_segments x (segments_beyond g.end (drop (i + 1) bands))) here

  pub cost_stop : (b : Band) (g : TheSegment) (p : Past) → i < length bands → b ≡ get_or bands i b → Some g ≡ segment_beyond end b → add_segment x g old ≡ Err p → Err p ≡ whole
  cost_stop b g p h e found here = sym (so_on b g h e found ∙ ap (λ (r : Result Ratio Past). r ▷ add_segments x (segments_beyond g.end (drop (i + 1) bands))) here)

  pub cost_none : (b : Band) → i < length bands → b ≡ get_or bands i b → None ≡ segment_beyond end b → Ok old ≡ whole
  cost_none b h e found = sym (so_far ∙ ap (λ (gs : List TheSegment). add_segments x gs old) (no_segments bands i b end h e (sym found)))

  pub cost_end : length bands ≤ i → Ok old ≡ whole
  cost_end h = sym (so_far ∙ ap (λ (gs : List TheSegment). add_segments x gs old) (past_segments bands i end h))

-- ---- the last slope

slope_at : (slope : Ratio) (bands : List Band) (i : ℕ) (b : Band) → i + 1 ≡ length bands → get_or bands i b ≡ b → last_slope slope bands ≡ b.slope
slope_at slope [] i b h e = absurd (omega arith)
slope_at slope (c ∷ []) i b h e = let z : i ≡ 0 = omega arith in ap (λ (a : Band). a.slope) (rw z at e)
slope_at slope (c ∷ d ∷ bs) zero b h e = absurd (omega arith)
slope_at slope (c ∷ d ∷ bs) (suc i) b h e = slope_at c.slope (d ∷ bs) i b (omega arith) e

pub slope_last : (slope : Ratio) (bands : List Band) (b : Band) → Some b ≡ slice_get bands (length bands - 1) → last_slope slope bands ≡ b.slope
slope_last slope [] b e = absurd (cc e)
slope_last slope (c ∷ cs) b e =
    slope_at slope (c ∷ cs) (length (c ∷ cs) - 1) b (omega arith) (get_or_from_slice_get (c ∷ cs) (length (c ∷ cs) - 1) b b (sym e))
