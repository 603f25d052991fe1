-- The records of an expanded network, one after the other.
use Rattle.std.specs.Prelude.{◌≡◌, ℕ, suc, ◌+◌, ◌<◌, List, [], ◌∷◌, ◌++◌, length, map, take, drop, get_or, codes}
use Rattle.std.specs.List.{flat_map, enumerate_from}
use Rattle.std.proofs.Common.{refl, sym, ap, ◌∙◌, arith, append_assoc}
use Rattle.std.proofs.Math.Seq.{take-append_seam, drop-append_seam, drop-cons}
use Rattle.std.proofs.lemmas.List.{append-nil, take_more, flat_map_more, length-take-le, length-append, length-map, map-append}
use Rattle.std.proofs.lemmas.List.Concat.{flat_map-append}
use Rattle.std.proofs.lemmas.List.FromFn.{length-enumerate_from}
use Rattle.np_records.specs.Texts.{record_text, records_text}
use Rattle.np_model.specs.declared.arc.NetArc.{NetArc}
use Rattle.np_model.specs.Scheme.Segments.{Stage}
use Rattle.np_model.specs.Scheme.Plans.{staged}
use Rattle.convex_arcs.specs.Segments.{band_arc, segment_arcs, flat_arcs}
use Rattle.np_model.specs.declared.scheme.Scheme.{Scheme}
use Rattle.netplan_top.specs.Texts.Frame.{end_record}
use Rattle.netplan_top.specs.Texts.Network.{numbered_arcs, numbered_segments, segment_arc, arc_record, size_record, node_records, arc_records, net_text}

-- ---- numbered elements

enumerate_from-append : {X : Type 0} (n : ℕ) (xs ys : List X) → enumerate_from n (xs ++ ys) ≡ enumerate_from n xs ++ enumerate_from (n + length xs) ys
enumerate_from-append n [] ys = ap (λ (k : ℕ). enumerate_from k ys) (omega arith)
enumerate_from-append n (x ∷ xs) ys = ap (λ zs. (n, x) ∷ zs) (enumerate_from-append (n + 1) xs ys ∙ ap (λ (k : ℕ). enumerate_from (n + 1) xs ++ enumerate_from k ys) (omega arith))

numbered-push : {X : Type 0} (f : ℕ × X → List (List ℕ)) (from : ℕ) (xs : List X) (x : X) → map f (enumerate_from from (xs ++ x ∷ [])) ≡ map f (enumerate_from from xs) ++ f (from + length xs, x) ∷ []
numbered-push f from xs x = ap (map f) (enumerate_from-append from xs (x ∷ [])) ∙ map-append f (enumerate_from from xs) ((from + length xs, x) ∷ [])

-- the record of one element more
pub one-more : {X : Type 0} (f : ℕ × X → List (List ℕ)) (old : List ℕ) (xs : List X) (i : ℕ) (x : X) → i < length xs → x ≡ get_or xs i x
    → (old ++ records_text (map f (enumerate_from 0 (take i xs)))) ++ record_text (f (i, x)) ≡ old ++ records_text (map f (enumerate_from 0 (take (i + 1) xs)))
one-more f old xs i x h e =
    let length-of = length-take-le i xs (omega arith) in
    let size : 0 + length (take i xs) ≡ i = omega arith in
    let whole : take (i + 1) xs ≡ take i xs ++ x ∷ [] = take_more xs i x h ∙ ap (λ y. take i xs ++ y ∷ []) (sym e) in
    let rows : map f (enumerate_from 0 (take (i + 1) xs)) ≡ map f (enumerate_from 0 (take i xs)) ++ f (i, x) ∷ [] =
    ap (λ ys. map f (enumerate_from 0 ys)) whole ∙ numbered-push f 0 (take i xs) x ∙ ap (λ (k : ℕ). map f (enumerate_from 0 (take i xs)) ++ f (k, x) ∷ []) size in
    flat_map_more record_text old (map f (enumerate_from 0 (take i xs))) (f (i, x)) ∙ ap (λ (rs : List (List (List ℕ))). old ++ records_text rs) (sym rows)

-- ---- what the text lists

segment-arcs : (s : Stage) (n : ℕ) (xs : List NetArc) → map segment_arc (map (λ segment. (s, segment)) (enumerate_from n xs)) ≡ xs
segment-arcs s n [] = refl
segment-arcs s n (a ∷ xs) = ap (λ l. a ∷ l) (segment-arcs s (n + 1) xs)

pub listed-arcs : (stages : List Stage) → map segment_arc (flat_map numbered_segments stages) ≡ flat_arcs stages
listed-arcs [] = refl
listed-arcs (s ∷ stages) =
    map-append segment_arc (numbered_segments s) (flat_map numbered_segments stages)
    ∙ ap (λ (l : List NetArc). l ++ map segment_arc (flat_map numbered_segments stages)) (segment-arcs s 0 (segment_arcs s)) ∙ ap (λ (l : List NetArc). segment_arcs s ++ l) (listed-arcs stages)

pub listed-count : (scheme : Scheme) → length (arc_records scheme) ≡ length (flat_arcs (staged scheme))
listed-count scheme =
    let all = flat_map numbered_segments (staged scheme) in
    length-map (enumerate_from 0 all) (arc_record scheme.flows) ∙ length-enumerate_from 0 all ∙ sym (length-map all segment_arc) ∙ ap (λ (l : List NetArc). length l) (listed-arcs (staged scheme))

-- ---- the arcs of a stage

arcs-push : (s : Stage) (arcs : List NetArc) (a : NetArc) → numbered_arcs s (arcs ++ a ∷ []) ≡ numbered_arcs s arcs ++ (s, (length arcs, a)) ∷ []
arcs-push s arcs a =
    let tag : ℕ × NetArc → Stage × (ℕ × NetArc) = λ segment. (s, segment) in
    let place : 0 + length arcs ≡ length arcs = omega arith in
    ap (map tag) (enumerate_from-append 0 arcs (a ∷ [])) ∙ map-append tag (enumerate_from 0 arcs) ((0 + length arcs, a) ∷ [])
    ∙ ap (λ (n : ℕ). numbered_arcs s arcs ++ (s, (n, a)) ∷ []) place

arcs-length : (s : Stage) (arcs : List NetArc) → length (numbered_arcs s arcs) ≡ length arcs
arcs-length s arcs =
    let tag : ℕ × NetArc → Stage × (ℕ × NetArc) = λ segment. (s, segment) in
    length-map (enumerate_from 0 arcs) tag ∙ length-enumerate_from 0 arcs

-- the record of one arc more
pub arc-more : (f : ℕ × (Stage × (ℕ × NetArc)) → List (List ℕ)) (old : List ℕ) (first : ℕ) (s : Stage) (arcs : List NetArc) (k : ℕ) (a : NetArc) → k < length arcs → a ≡ get_or arcs k a
    → (old ++ records_text (map f (enumerate_from first (numbered_arcs s (take k arcs))))) ++ record_text (f (first + k, (s, (k, a))))
    ≡ old ++ records_text (map f (enumerate_from first (numbered_arcs s (take (k + 1) arcs))))
arc-more f old first s arcs k a h e =
    let so_far = numbered_arcs s (take k arcs) in
    let next : Stage × (ℕ × NetArc) = (s, (k, a)) in
    let size : length (take k arcs) ≡ k = length-take-le k arcs (omega arith) in
    let whole : take (k + 1) arcs ≡ take k arcs ++ a ∷ [] = take_more arcs k a h ∙ ap (λ y. take k arcs ++ y ∷ []) (sym e) in
    let more : numbered_arcs s (take (k + 1) arcs) ≡ so_far ++ next ∷ [] =
    ap (numbered_arcs s) whole ∙ arcs-push s (take k arcs) a ∙ ap (λ (n : ℕ). so_far ++ (s, (n, a)) ∷ []) size in
    let counted = arcs-length s (take k arcs) in
    let place : first + length so_far ≡ first + k = omega arith in
    let rows : map f (enumerate_from first (numbered_arcs s (take (k + 1) arcs))) ≡ map f (enumerate_from first so_far) ++ f (first + k, next) ∷ [] =
    ap (λ (l : List (Stage × (ℕ × NetArc))). map f (enumerate_from first l)) more ∙ numbered-push f first so_far next
    ∙ ap (λ (n : ℕ). map f (enumerate_from first so_far) ++ f (n, next) ∷ []) place in
    flat_map_more record_text old (map f (enumerate_from first so_far)) (f (first + k, next)) ∙ ap (λ (rs : List (List (List ℕ))). old ++ records_text rs) (sym rows)

-- ---- those of all stages

segments-length : (s : Stage) → length (segment_arcs s) ≡ 1 + length s.bands
segments-length s = omega (arith, length-map s.bands (band_arc s.ends))

-- the arcs of the next stage are taken from the rest
pub record Parted (stages : List Stage) (j : ℕ) (s : Stage) (rest own later : List NetArc) : Type 0 where
  pub own_is : own ≡ segment_arcs s
  pub later_is : later ≡ flat_arcs (drop (j + 1) stages)
  pub whole : length own + length later ≡ length rest

pub parted : (stages : List Stage) (j : ℕ) (s : Stage) (rest own later : List NetArc) (bands : ℕ) → j < length stages → s ≡ get_or stages j s → rest ≡ flat_arcs (drop j stages) → bands ≡ length s.bands
    → own ≡ take (1 + bands) rest → later ≡ drop (1 + bands) rest → Parted stages j s rest own later
parted stages j s rest own later bands h e rest_is bands_is own_is later_is =
    let place : suc j ≡ j + 1 = omega arith in
    let next : drop j stages ≡ s ∷ drop (j + 1) stages = drop-cons stages j s h ∙ ap (λ (t : Stage). t ∷ drop (suc j) stages) (sym e) ∙ ap (λ (n : ℕ). s ∷ drop n stages) place in
    let behind = flat_arcs (drop (j + 1) stages) in
    let all : rest ≡ segment_arcs s ++ behind = rest_is ∙ ap flat_arcs next in
    let counted : 1 + bands ≡ length (segment_arcs s) = omega (arith, bands_is, segments-length s) in
    let own_is' : own ≡ segment_arcs s = own_is ∙ ap (λ (n : ℕ). take n rest) counted ∙ ap (take (length (segment_arcs s))) all ∙ take-append_seam (segment_arcs s) behind in
    let later_is' : later ≡ behind = later_is ∙ ap (λ (n : ℕ). drop n rest) counted ∙ ap (drop (length (segment_arcs s))) all ∙ drop-append_seam (segment_arcs s) behind in
    record {
      own_is = own_is';
      later_is = later_is';
      whole = rw (own_is', later_is', all) (sym (length-append (segment_arcs s) behind));
    }

-- the records of one stage more, which are numbered on
pub stage-more : (f : ℕ × (Stage × (ℕ × NetArc)) → List (List ℕ)) (old : List ℕ) (stages : List Stage) (j : ℕ) (s : Stage) → j < length stages → s ≡ get_or stages j s
    → (old ++ records_text (map f (enumerate_from 0 (flat_map numbered_segments (take j stages))))) ++ records_text (map f (enumerate_from (length (flat_arcs (take j stages))) (numbered_segments s)))
    ≡ old ++ records_text (map f (enumerate_from 0 (flat_map numbered_segments (take (j + 1) stages))))
stage-more f old stages j s h e =
    let before = flat_map numbered_segments (take j stages) in
    let own = numbered_segments s in
    let whole : take (j + 1) stages ≡ take j stages ++ s ∷ [] = take_more stages j s h ∙ ap (λ y. take j stages ++ y ∷ []) (sym e) in
    let all : flat_map numbered_segments (take (j + 1) stages) ≡ before ++ own =
    ap (flat_map numbered_segments) whole ∙ flat_map-append numbered_segments (take j stages) (s ∷ []) ∙ ap (λ (l : List (Stage × (ℕ × NetArc))). before ++ l) (append-nil own) in
    let counted : length before ≡ length (flat_arcs (take j stages)) = sym (length-map before segment_arc) ∙ ap (λ (l : List NetArc). length l) (listed-arcs (take j stages)) in
    let place : 0 + length before ≡ length (flat_arcs (take j stages)) = omega arith in
    let done = map f (enumerate_from 0 before) in
    let rows : map f (enumerate_from 0 (flat_map numbered_segments (take (j + 1) stages))) ≡ done ++ map f (enumerate_from (length (flat_arcs (take j stages))) own) =
    ap (λ (l : List (Stage × (ℕ × NetArc))). map f (enumerate_from 0 l)) all ∙ ap (map f) (enumerate_from-append 0 before own)
    ∙ map-append f (enumerate_from 0 before) (enumerate_from (0 + length before) own) ∙ ap (λ (n : ℕ). done ++ map f (enumerate_from n own)) place in
    append_assoc old (records_text done) (records_text (map f (enumerate_from (length (flat_arcs (take j stages))) own)))
    ∙ ap (λ (l : List ℕ). old ++ l) (sym (flat_map-append record_text done (map f (enumerate_from (length (flat_arcs (take j stages))) own))) ∙ ap records_text (sym rows))

-- the arcs of one stage more
pub arcs-more : (stages : List Stage) (j : ℕ) (s : Stage) → j < length stages → s ≡ get_or stages j s → length (flat_arcs (take (j + 1) stages)) ≡ length (flat_arcs (take j stages)) + length (segment_arcs s)
arcs-more stages j s h e =
    let whole : take (j + 1) stages ≡ take j stages ++ s ∷ [] = take_more stages j s h ∙ ap (λ y. take j stages ++ y ∷ []) (sym e) in
    ap (λ (l : List Stage). length (flat_arcs l)) whole ∙ ap (λ (l : List NetArc). length l) (flat_map-append segment_arcs (take j stages) (s ∷ []) ∙ ap (λ (l : List NetArc). flat_arcs (take j stages) ++ l) (append-nil (segment_arcs s)))
    ∙ length-append (flat_arcs (take j stages)) (segment_arcs s)

-- ---- the whole

-- each call has added its records
whole-text : (head nodes arcs : List (List (List ℕ))) (end : List (List ℕ)) (a b c d : List ℕ) → a ≡ [] ++ records_text head → b ≡ a ++ records_text nodes → c ≡ b ++ records_text arcs → d ≡ c ++ record_text end
    → d ≡ records_text (head ++ nodes ++ arcs ++ end ∷ [])
whole-text head nodes arcs end a b c d ha hb hc hd =
    let before : records_text (head ++ nodes ++ arcs) ≡ records_text head ++ records_text nodes ++ records_text arcs =
    flat_map-append record_text (head ++ nodes) arcs ∙ ap (λ (l : List ℕ). l ++ records_text arcs) (flat_map-append record_text head nodes) in
    rw (hd, hc, hb, ha, sym before) (flat_map_more record_text [] (head ++ nodes ++ arcs) end)

pub whole-net : (scheme : Scheme) (a b c d : List ℕ) → a ≡ [] ++ records_text ((codes "netplan-net" ∷ codes "1" ∷ []) ∷ size_record scheme ∷ []) → b ≡ a ++ records_text (node_records scheme)
    → c ≡ b ++ records_text (arc_records scheme) → d ≡ c ++ record_text end_record → d ≡ net_text scheme
unfolding net_text
whole-net scheme a b c d ha hb hc hd = whole-text ((codes "netplan-net" ∷ codes "1" ∷ []) ∷ size_record scheme ∷ []) (node_records scheme) (arc_records scheme) end_record a b c d ha hb hc hd
