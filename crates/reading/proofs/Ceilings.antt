-- The ceilings of a text, read from the ends of its pieces. Assumes nothing.
use Prim.Native.Nat.{ℕ, suc, ◌+◌, ◌-◌, ◌<◌, ◌≤◌}
use mathlib.Core.Path.{◌≡◌, refl, sym, ap, ◌∙◌}
use mathlib.Core.Bool.{Bool, true, false, cond, not, ◌&&◌, ◌||◌}
use mathlib.Core.List.{List, [], ◌∷◌, ◌++◌}
use mathlib.Core.Logic.{⊎_elim}
use native.Mathlib.Omega.{arith}
use borrow.Author.Tests.{eq-eqb, ne_eqb}
use lib.Dec.{eqb}
use lib.ListN.{length, get_or, take, drop, length-drop, take-append-drop}
use lib.Seq.{get_or-drop, get_or-take, length-take-le, take_all, take-nil}
use Rattle.lent.specs.Count.{one}
use Rattle.lent.specs.Grid.{tab, over}
use Rattle.lent.proofs.Laws.{either, tab_ext, over_none, length_tab}
use Rattle.fields.specs.Split.{split, piece, first_piece, end_of, all}
use Rattle.fields.proofs.Every.{all_end, all_yes, all_no}
use Rattle.fields.proofs.Pieces.{length_onto}
use Rattle.fields.proofs.Last.{last_whole}
use Rattle.ceilings.specs.Written.{ceiling_of, is_ceiling, ceiling_read}
use Rattle.ceilings.proofs.Written.{ceiling_no, ceiling_yes}
use Rattle.heading.specs.Heading.{field, fields_in, last_field}
use Rattle.reading.specs.Reading.{line, priced, ceiled, assets, is_ceilings, start_of, text_ceiling, ceilings_in}
use Rattle.reading.specs.Inner.{LastRead, has_ceilings, CeilingsAsked, CeilingsRead}
use Rattle.reading.proofs.Starts.{start_in, piece_at, pieces_from, piece_within, piece_cut, start_next}
use Rattle.reading.proofs.Front.{Front, front_start, front_end}
use Rattle.reading.proofs.Table.{ends}
use Rattle.reading.proofs.Blocks.{fields_are, front_put, assets_by, head_by, rows_by}
use Rattle.reading.proofs.Limits.{ended, ceilings_by}
use Rattle.std.specs.Prelude.{Some, None}
use Rattle.fields.specs.Outcomes.{Numeral}

-- ---- a walk over n pieces, the last field of each looked at

-- i of them were, each is a ceiling, and the next begins at `at`
pub record Lasting (d : ℕ) (s : List ℕ) (n : ℕ) (ceilings₀ : List ℕ) (i at : ℕ) (ceilings : List ℕ) : Type 0 where
  pub few : i ≤ n
  pub begun : at ≡ start_of d s i
  pub sized : length ceilings ≡ length ceilings₀
  pub told : all ended (take n (split d s)) ≡ all ended (drop i (take n (split d s)))
  pub front : Front 0 (λ k. ceiling_of (last_field (piece d s k))) i ceilings

pub lasting_start : (d : ℕ) (s : List ℕ) (n : ℕ) (ceilings : List ℕ) → Lasting d s n ceilings 0 0 ceilings
unfolding start_of
lasting_start d s n ceilings = record {
  few = omega arith;
  begun = refl;
  sized = refl;
  told = refl;
  front = front_start 0 (λ k. ceiling_of (last_field (piece d s k))) ceilings;
}

module _ {d : ℕ} {s : List ℕ} {n : ℕ} {ceilings₀ : List ℕ} {i at : ℕ} {ceilings : List ℕ} (enough : n ≤ length (split d s)) (w : Lasting d s n ceilings₀ i at ceilings) where
  module _ (more : i < n) (e : ℕ) (ends_at : e ≡ end_of d s at) where
    there : i < length (split d s)
    there = omega arith

    pub last_within : (at ≤ e) × (e ≤ length s)
    last_within = piece_within d s i there at e w.begun ends_at

    cut : take (e - at) (drop at s) ≡ get_or (take n (split d s)) i []
    cut = piece_cut d s i there at e w.begun ends_at ∙ sym (get_or-take n (split d s) i [] more)

    in_list : i < length (take n (split d s))
    in_list = omega (arith, length-take-le n (split d s) enough)

    module _ (v : List ℕ) (is_last : v ≡ last_field (take (e - at) (drop at s))) (r : Numeral) (is_read : r ≡ ceiling_read v) where
      pub lasting_bad : (ceilings' : List ℕ) → r ≡ None → LastRead d s n false ceilings'
      lasting_bad ceilings' c = record {
        told = sym (w.told ∙ all_no ended (take n (split d s)) i [] in_list (ap ended (sym cut) ∙ ap is_ceiling (sym is_last) ∙ ceiling_no v (sym is_read ∙ c)));
        placed = λ z. absurd (let y : ◌≡◌ {A = ℕ} 0 1 = cc in omega arith);
      }

      module _ (k : ℕ) (c : r ≡ Some k) where
        -- the ceiling read is the piece's
        pub ceiling_at_lem : k ≡ ceiling_of (last_field (piece d s i))
        ceiling_at_lem = (ceiling_yes v k (sym is_read ∙ c)).1 ∙ ap ceiling_of is_last ∙ ap (λ (t : List ℕ). ceiling_of (last_field t)) (piece_cut d s i there at e w.begun ends_at)

        pub lasting_step : (ceilings' : List ℕ) → length ceilings' ≡ length ceilings → Front 0 (λ j. ceiling_of (last_field (piece d s j))) (i + 1) ceilings' → Lasting d s n ceilings₀ (i + 1) (e + 1) ceilings'
        lasting_step ceilings' same front' = record {
          few = omega arith;
          begun = start_next d s i there at e w.begun ends_at;
          sized = same ∙ w.sized;
          told = w.told ∙ all_yes ended (take n (split d s)) i [] in_list (ap ended (sym cut) ∙ ap is_ceiling (sym is_last) ∙ (ceiling_yes v k (sym is_read ∙ c)).0);
          front = front';
        }

  pub lasting_end : length ceilings₀ ≤ n → n ≤ i → LastRead d s n true ceilings
  lasting_end h past =
      let sized = w.sized in
      record {
        told = sym (w.told ∙ all_end ended (take n (split d s)) i (omega (arith, length-take-le n (split d s) enough)));
        placed = λ z. front_end 0 (λ k. ceiling_of (last_field (piece d s k))) i ceilings w.front (omega arith);
      }

-- ---- a field ends with itself

first_whole : (d : ℕ) (s : List ℕ) → length (split d (first_piece d s)) ≡ 1
unfolding split first_piece
first_whole d [] = refl
first_whole d (b ∷ s) = go (eqb b d) refl (first_whole d s)
  where
    go : (t : Bool) → eqb b d ≡ t → length (split d (first_piece d s)) ≡ 1 → length (split d (cond t [] (b ∷ first_piece d s))) ≡ 1
    go true e ih = refl
    go false e ih = rw e (length_onto b (split d (first_piece d s)) ∙ ih)

field_last : (l : List ℕ) (k : ℕ) → k < fields_in l → last_field (field l k) ≡ field l k
field_last l k h = last_whole 9 (field l k) (ap (λ (t : List ℕ). length (split 9 t)) (piece_at 9 l k h) ∙ first_whole 9 (drop (start_of 9 l k) l))

all_alike : (f g : List ℕ → Bool) (l : List (List ℕ)) → ((k : ℕ) → k < length l → f (get_or l k []) ≡ g (get_or l k [])) → all f l ≡ all g l
unfolding all
all_alike f g [] h = refl
all_alike f g (w ∷ l) h = let a : f w ≡ g w = h 0 (omega arith) in rw (a, all_alike f g l (λ k m. h (suc k) (omega arith)))

fields_ended : (l : List ℕ) → all ended (split 9 l) ≡ all is_ceiling (split 9 l)
fields_ended l = all_alike ended is_ceiling (split 9 l) (λ k h. ap is_ceiling (field_last l k h))

-- ---- the lines after the first

drop_front : (k : ℕ) (l : List (List ℕ)) → drop 1 (take (suc k) l) ≡ take k (drop 1 l)
drop_front k [] = sym (take-nil k)
drop_front k (w ∷ l) = refl

-- ---- what the call tells

module _ {text : List ℕ} {from : ℕ} {daily limited : Bool} {n room : ℕ} (asked : CeilingsAsked text from daily limited n room) where
  pub limits_none : limited ≡ false → (part : List ℕ) → CeilingsRead text true part part
  limits_none e part =
      let c : ceiled text ≡ false = asked.limits ∙ e in
      record {
        told = sym (ap (λ (t : Bool). not t || has_ceilings text) c);
        placed = λ z. sym (ap (λ (t : Bool). cond t (tab (length part) (text_ceiling text)) part) c);
      }

  module _ (is-limited : limited ≡ true) where
    are : ceiled text ≡ true
    are = asked.limits ∙ is-limited

    limits_read : (r : Bool) (part part' : List ℕ) → r ≡ has_ceilings text → (r ≡ true → part' ≡ tab (length part) (text_ceiling text)) → CeilingsRead text r part part'
    limits_read r part part' e f = record {
      told = e ∙ sym (ap (λ (t : Bool). not t || has_ceilings text) are);
      placed = λ z. f z ∙ sym (ap (λ (t : Bool). cond t (tab (length part) (text_ceiling text)) part) are);
    }

    ceiling_by : (t : Bool) (i : ℕ) → priced text ≡ t → text_ceiling text i ≡ cond t (ceiling_of (field (line text 2) i)) (ceiling_of (last_field (line text (i + 1))))
    unfolding text_ceiling
    ceiling_by t i e = ap (λ (b : Bool). cond b (ceiling_of (field (line text 2) i)) (ceiling_of (last_field (line text (i + 1))))) e

    -- ---- at the ends of the assets' lines

    module _ (plain : daily ≡ false) where
      unpriced : priced text ≡ false
      unpriced = asked.kind ∙ plain

      second : 1 < length (split 10 text)
      second = omega (arith, asked.headed, head_by text false unpriced, ends text)

      pub assets_from : from ≤ length text
      assets_from = rw asked.begun (start_in 10 text 1 second)

      own : split 10 (take (length text - from) (drop from text)) ≡ drop 1 (split 10 text)
      own =
          ap (split 10) (take_all (length text - from) (drop from text) (omega (arith, length-drop from text)))
          ∙ ap (λ (k : ℕ). split 10 (drop k text)) asked.begun
          ∙ pieces_from 10 text 1 second

      lined : length (split 10 text) - 1 ≡ suc n
      lined = omega (arith, asked.counted, assets_by text false unpriced, rows_by text 1 (head_by text false unpriced), ends text, second)

      pub assets_enough : n ≤ length (split 10 (take (length text - from) (drop from text)))
      assets_enough = omega (arith, ap length own, length-drop 1 (split 10 text), lined)

      pub assets_read : (r : Bool) (part part' : List ℕ) → LastRead 10 (take (length text - from) (drop from text)) n r part' → length part' ≡ length part → CeilingsRead text r part part'
      assets_read r part part' was same =
          limits_read r part part'
          (was.told
          ∙ ap (λ (l : List (List ℕ)). all ended (take n l)) own
          ∙ sym (ap (all ended) (ap (λ (k : ℕ). drop 1 (take k (split 10 text))) lined ∙ drop_front n (split 10 text)))
          ∙ sym (ceilings_by text false unpriced))
          (λ z.
          was.placed z
          ∙ ap (λ (k : ℕ). tab k (λ (i : ℕ). ceiling_of (last_field (piece 10 (take (length text - from) (drop from text)) i)))) same
          ∙ tab_ext (length part) (λ (i : ℕ). ceiling_of (last_field (piece 10 (take (length text - from) (drop from text)) i))) (text_ceiling text)
          (λ i h.
          let a : 1 + i ≡ i + 1 = omega arith in
          ap (λ (l : List (List ℕ)). ceiling_of (last_field (get_or l i []))) own
          ∙ ap (λ (t : List ℕ). ceiling_of (last_field t)) (get_or-drop 1 (split 10 text) i [] ∙ ap (line text) a)
          ∙ sym (ceiling_by false i unpriced)))

    -- ---- on the line after the names, which end at e

    module _ (is-daily : daily ≡ true) (e : ℕ) (names_end : e ≡ end_of 10 text from) where
      is_priced_lem : priced text ≡ true
      is_priced_lem = asked.kind ∙ is-daily

      third : 2 < length (split 10 text)
      third = let c : one (ceiled text) ≡ 1 = ap one are in omega (arith, asked.headed, head_by text true is_priced_lem, c, ends text)

      pub names_short : e ≤ length text
      names_short = (piece_within 10 text 1 (omega (arith, third)) from e asked.begun names_end).1

      begun : e + 1 ≡ start_of 10 text 2
      begun = start_next 10 text 1 (omega (arith, third)) from e asked.begun names_end

      module _ (f : ℕ) (ends_at : f ≡ end_of 10 text (e + 1)) where
        pub limits_within : (e + 1 ≤ f) × (f ≤ length text)
        limits_within = piece_within 10 text 2 third (e + 1) f begun ends_at

        limits_cut : take (f - (e + 1)) (drop (e + 1) text) ≡ line text 2
        limits_cut = piece_cut 10 text 2 third (e + 1) f begun ends_at

        module _ (k : ℕ) (counted : k ≡ length (split 9 (take (f - (e + 1)) (drop (e + 1) text))) - 1) where
          told_by : (t : Bool) → eqb (fields_in (line text 2)) n ≡ t → has_ceilings text ≡ (t && all is_ceiling (split 9 (line text 2)))
          unfolding is_ceilings
          told_by t q =
              ceilings_by text true is_priced_lem
              ∙ ap (λ (m : ℕ). is_ceilings m (line text 2)) (sym asked.counted)
              ∙ ap (λ (b : Bool). b && all is_ceiling (split 9 (line text 2))) q

          counts : k + 1 ≡ fields_in (line text 2)
          counts = fields_are k (take (f - (e + 1)) (drop (e + 1) text)) (line text 2) counted limits_cut

          pub limits_wrong : (k + 1 ≡ n → ⊥) → (part : List ℕ) → CeilingsRead text false part part
          limits_wrong q part =
              limits_read false part part
              (sym (told_by false (ne_eqb (fields_in (line text 2)) n (λ m. q (counts ∙ m)))))
              (λ z. absurd (let y : ◌≡◌ {A = ℕ} 0 1 = cc in omega arith))

          module _ (q : k + 1 ≡ n) where
            pub limits_enough : n ≤ length (split 9 (take (f - (e + 1)) (drop (e + 1) text)))
            limits_enough = omega (arith, counts, ap (λ (t : List ℕ). fields_in t) limits_cut)

            pub limits_right : (r : Bool) (part part' : List ℕ) → LastRead 9 (take (f - (e + 1)) (drop (e + 1) text)) n r part' → length part ≤ n → length part' ≡ length part → CeilingsRead text r part part'
            limits_right r part part' was few same =
                limits_read r part part'
                (was.told
                ∙ ap (λ (t : List ℕ). all ended (take n (split 9 t))) limits_cut
                ∙ ap (all ended) (take_all n (split 9 (line text 2)) (omega (arith, counts)))
                ∙ fields_ended (line text 2)
                ∙ sym (told_by true (eq-eqb (fields_in (line text 2)) n (sym counts ∙ q))))
                (λ z.
                was.placed z
                ∙ ap (λ (m : ℕ). tab m (λ (i : ℕ). ceiling_of (last_field (piece 9 (take (f - (e + 1)) (drop (e + 1) text)) i)))) same
                ∙ ap (λ (t : List ℕ). tab (length part) (λ (i : ℕ). ceiling_of (last_field (piece 9 t i)))) limits_cut
                ∙ tab_ext (length part) (λ (i : ℕ). ceiling_of (last_field (field (line text 2) i))) (text_ceiling text)
                (λ i h. ap ceiling_of (field_last (line text 2) i (omega (arith, counts))) ∙ sym (ceiling_by true i is_priced_lem)))

-- ---- a buffer whose front was read

pub ceilings_none : (text : List ℕ) → ceiled text ≡ false → ceilings_in text ≡ []
unfolding ceilings_in
ceilings_none text e = ap (λ (t : Bool). cond t (tab (assets text) (text_ceiling text)) []) e

pub ceilings_given : (text : List ℕ) → ceiled text ≡ true → ceilings_in text ≡ tab (assets text) (text_ceiling text)
unfolding ceilings_in
ceilings_given text e = ap (λ (t : Bool). cond t (tab (assets text) (text_ceiling text)) []) e

module _ (text ceilings part' : List ℕ) (w : ℕ) (room : w ≤ length ceilings) (whole : w ≡ assets text) where
  pub limits_put : part' ≡ cond (ceiled text) (tab (length (take w ceilings)) (text_ceiling text)) (take w ceilings) → part' ++ drop w ceilings ≡ over (ceilings_in text) ceilings
  limits_put e =
      ⊎_elim
      (λ c.
      let p : part' ≡ tab w (text_ceiling text) =
      e ∙ ap (λ (t : Bool). cond t (tab (length (take w ceilings)) (text_ceiling text)) (take w ceilings)) c
      ∙ ap (λ (k : ℕ). tab k (text_ceiling text)) (length-take-le w ceilings room) in
      let q : length part' ≡ w = ap length p ∙ length_tab w (text_ceiling text) in
      front_put ceilings part' w (text_ceiling text) (p ∙ ap (λ (k : ℕ). tab k (text_ceiling text)) (sym q)) q
      ∙ ap (λ (k : ℕ). over (tab k (text_ceiling text)) ceilings) whole
      ∙ ap (λ (l : List ℕ). over l ceilings) (sym (ceilings_given text c)))
      (λ c.
      ap (λ (l : List ℕ). l ++ drop w ceilings) (e ∙ ap (λ (t : Bool). cond t (tab (length (take w ceilings)) (text_ceiling text)) (take w ceilings)) c)
      ∙ take-append-drop w ceilings
      ∙ over_none ceilings
      ∙ ap (λ (l : List ℕ). over l ceilings) (sym (ceilings_none text c)))
      (either (ceiled text))
