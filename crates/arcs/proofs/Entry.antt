-- The walk of an entry over a list of arc structs, by hand, once for every entry: the list is taken apart, and the array goes to a
-- function over it, with the supplies and the two buffers as they are. The entries differ in the type of the answer, R, which is τ
-- to the machine, in the width of the second buffer's numbers, in that function and in what it promises. All that the walk knows of
-- the two callees is that they meet their contracts. The check walks the entries of crate `unit` by itself; this says it of any entry.
--     function         the MIR of such an entry.        over_clauses, clauses    what the function and the entry promise
--     exits            from what is had at exit to the promise.        walk     the MIR, statement by statement
--     entry_meets      so the MIR meets the promise, where the two callees meet theirs
use mathlib.Core.Path.{◌≡◌, refl}
use Prim.Native.Nat.{ℕ, ◌<◌, ◌^◌}
use mathlib.Core.List.{List, [], ◌∷◌}
use lib.Dec.{T as Holds}
use lib.IntN.{ℤ}
use lib.ListN.{length}
use seplogic.Ra.Ura.{Ura}
use mir.Syntax.{Callee, Width, Ty, Fn, local, value_local, named, erased, imm, mut, w32, w64, ty_int, ty_array, ty_ref, place, field, deref, copy, rv_opd, addr_of, aggregate, seq, assign, call, return}
use mir.Val.{Val, WT, has_ty, vint}
use base.Logic.{SProp, ent, sep, emp, id⊢, via, fst∗, snd∗, ex_e}
use base.Fml.{Lft, Share, Fml, ftrue, fsep, flft}
use prog.Memory.{Memory}
use prog.Routine.{Routine}
use prog.Wp.{Calls, Loops, WpFn, Tables}
use types.Logic.{Logic, sem}
use contract.Monad.{Fun, fact}
use types.Kit.{Item, ‵, raw, ◌⊛◌, ⋆, some, later, ◌$◌, ◌∵◌, !, qed, by, move, keep, drop, use1, use2, use3, split, join, pick, fsplit, fjoin, feq_l, suffices, frame, await, done}
use types.Part.{agg, whole, sub, look_in}
use types.Run.{look, init, forget, stop, hop, fld, from, load, addr, of_opd, and_then, no_more, assigns, land, returns, enter, alloc1, alloc0, params1, pass1, pass0, free1, free0}
use sound.WpLaws.{FmC, fm_of, WpFn-mono}
use denote.RattleType.{RattleType, owns}
use denote.Array.{Array, Array-Lawful}
use denote.Laws.{Is, shows}
use denote.Memory.{pointee}
use denote.Signed.{sint_row_laws}
use denote.Plain.{UInt, uint_Makes, uint_Lawful}
use denote.Builtin.{u32, i32, usize, ArrayOf, SliceRefOf, SliceRefMutOf}
use denote.Ref.{Bor, MutBor}
use denote.Slice.{slice_ty, slice_val, shr_slice_vals, mut_slice_vals, MutSlice, ShrSlice, Room, mut_slice_Tells, shr_slice_Tells, shr_slice_copy}
use denote.Signature.{plain}
use denote.Steps.{owned, peeks, heard, nothing}
use denote.Triple.Entry.{on_entry}
use denote.Triple.Spec.{Meets, triple_of}
use denote.Triple.Statement.{Contract, Triple}
use denote.Triple.Call.{calls_at}
use denote.Triple.Clauses.{Clauses, Ended, closing, ensured, lasts}
use denote.Triple.Walked.{on_exit, says, Stays, stay_none_slice, gave_slice, walk_of, Goes-none_slice, Goes-gave_slice, Walks, ends_at, walked, walk_Meets}
use denote.Exit.{yes}
use Rattle.arcs.specs.Taken.{flattened, cut_at, room, taken_apart, OfArcs}
use Rattle.plan.specs.declared.Arc.{Arc}
use Rattle.plan.specs.contracts.Arc as T
use Rattle.plan.proofs.Arc.TheLaws as TL
use Rattle.arcs.specs.contracts.take_apart as take-apart

-- a local array of so many numbers
abbrev pub numbers : ℕ → Ty
numbers n = ty_array (ty_int w32) n

module _ (R : RattleType) (τ : Ty) where
  -- an answer's machine value has the machine's type
  abbrev pub Typed : Type 0
  Typed = (r : R.Denot) (u : Val) → Is R r (u ∷ []) → Holds (has_ty τ u) × WT u

  -- ---- the code, with the width of the second buffer's numbers and the two callees

  abbrev list : Ty
  list = slice_ty (ty_ref (named 0) imm (pointee (T.the_row).written))

  abbrev pub function : Width → (take over : Callee) → Fn
  function w take over = record {
    lifetimes = 4;
    outlives = [];
    ty_params = [];
    givens = 0;
    params = 4;
    locals = local τ value_local ∷ local list value_local ∷ local (slice_ty (ty_ref (named 1) imm (ty_int w32))) value_local
        ∷ local (slice_ty (ty_ref (named 2) mut (ty_int w32))) value_local ∷ local (slice_ty (ty_ref (named 3) mut (ty_int w))) value_local
        ∷ local (numbers room) value_local ∷ local (ty_int w64) value_local
        ∷ local (ty_ref erased mut (ty_int w32)) value_local ∷ local (slice_ty (ty_ref erased mut (ty_int w32))) value_local
        ∷ local (ty_ref erased mut (ty_int w)) value_local ∷ local (slice_ty (ty_ref erased mut (ty_int w))) value_local ∷ [];
    body = seq (call take (copy (place 1 []) ∷ []) (place 5 []))
        (seq (assign (place 6 []) (rv_opd (copy (place 1 (field 1 ∷ [])))))
        (seq (assign (place 7 []) (addr_of (place 3 (field 0 ∷ deref (ty_int w32) ∷ []))))
        (seq (assign (place 8 []) (aggregate (copy (place 7 []) ∷ copy (place 3 (field 1 ∷ [])) ∷ [])))
        (seq (assign (place 9 []) (addr_of (place 4 (field 0 ∷ deref (ty_int w) ∷ []))))
        (seq (assign (place 10 []) (aggregate (copy (place 9 []) ∷ copy (place 4 (field 1 ∷ [])) ∷ [])))
        (seq (call over (copy (place 5 []) ∷ copy (place 6 []) ∷ copy (place 2 []) ∷ copy (place 8 []) ∷ copy (place 10 []) ∷ []) (place 0 []))
        return))))));
  }

  -- ---- the promises: of a flat list and supplies, of the two buffers on entry and at exit, and of the answer

  abbrev pub Promises : Type 1
  Promises = List ℕ → List ℤ → (first second first' second' : List ℕ) → R.Denot → Type 0

  abbrev over_ended : Width → Ended
  over_ended w = record {
    signature = record {
      lifetimes = 3;
      outlives = [];
      params = ArrayOf (plain (λ _. u32)) (λ _. tt) room ∷ plain (λ _. usize) ∷ SliceRefOf (0 ∷ []) tt (plain (λ _. i32)) (λ _. tt)
          ∷ SliceRefMutOf (1 ∷ []) tt (plain (λ _. u32)) (λ _. tt) ∷ SliceRefMutOf (2 ∷ []) tt (plain (λ _. UInt w)) (λ _. tt) ∷ [];
      result = plain (λ _. R);
    };
    kept = (yes, (yes, (yes, (yes, (yes, tt)))));
  }

  abbrev pub ended : Width → Ended
  ended w = record {
    signature = record {
      lifetimes = 4;
      outlives = [];
      params = SliceRefOf (0 ∷ []) tt (plain (λ _. T.the_row)) (λ _. tt) ∷ SliceRefOf (1 ∷ []) tt (plain (λ _. i32)) (λ _. tt)
          ∷ SliceRefMutOf (2 ∷ []) tt (plain (λ _. u32)) (λ _. tt) ∷ SliceRefMutOf (3 ∷ []) tt (plain (λ _. UInt w)) (λ _. tt) ∷ [];
      result = plain (λ _. R);
    };
    kept = (yes, (yes, (yes, (yes, tt))));
  }

  abbrev over_clauses : {M : Type 1} (𝓤 : Ura M) (w : Width) → Promises → Clauses 𝓤 (over_ended w)
  over_clauses 𝓤 w Promise κs a = record {
    ghost = Unit {0};
    requires = λ _. emp 𝓤;
    ensures = λ _ r e. fact 𝓤 (OfArcs a.0 a.1.0
        (λ flat. Promise flat a.1.1.0.now a.1.1.1.0.now a.1.1.1.1.0.now e.1.1.1.0.now e.1.1.1.1.0.now r));
  }

  abbrev pub clauses : {M : Type 1} (𝓤 : Ura M) (w : Width) → Promises → Clauses 𝓤 (ended w)
  clauses 𝓤 w Promise κs a = record {
    ghost = Unit {0};
    requires = λ _. emp 𝓤;
    ensures = λ _ r e. fact 𝓤
        (Promise (flattened a.0.now) a.1.0.now a.1.1.0.now a.1.1.1.0.now e.1.1.0.now e.1.1.1.0.now r);
  }

  abbrev stayed : (w : Width) → Stays (ended w).signature.params (ended w).kept
  stayed w = (
    stay_none_slice (0 ∷ []) tt (plain (λ _. T.the_row)) yes,
    (
      stay_none_slice (1 ∷ []) tt (plain (λ _. i32)) yes,
      (gave_slice (2 ∷ []) tt (plain (λ _. u32)), (gave_slice (3 ∷ []) tt (plain (λ _. UInt w)), tt)),
    ),
  )

  module _ {M : Type 1} {𝓤 : Ura M} (𝓛 : Logic 𝓤) (at_mem : Memory → SProp 𝓤) (run : Routine → Fun 𝓤) where
    -- what the walk knows of its callees
    abbrev pub Take : Contract 𝓤
    Take = triple_of 𝓛 take-apart.signature (take-apart.spec 𝓛 at_mem run)

    abbrev pub Over : Width → Promises → Contract 𝓤
    Over w Promise = triple_of 𝓛 (over_ended w).signature (closing 𝓛 (over_ended w) (over_clauses 𝓤 w Promise))

  module _ {M : Type 1} {𝓤 : Ura M} (𝓛 : Logic 𝓤) (at_mem : Memory → SProp 𝓤) (run : Routine → Fun 𝓤) (w : Width) (Promise : Promises)
      (κ₀ κ₁ κ₂ κ₃ : Lft) (q₀ q₁ q₂ q₃ : Share) (x : Bor (List Arc)) (z : Bor (List ℤ)) (f g : MutBor (List ℕ)) where
    -- the machine values of the four slices
    open 𝓛 use {H, A}

    abbrev vx : Val
    vx = slice_val x.ref_ptr (length x.now)

    abbrev vz : Val
    vz = slice_val z.ref_ptr (length z.now)

    abbrev vf : Val
    vf = slice_val f.ref_ptr (length f.now)

    abbrev vg : Val
    vg = slice_val g.ref_ptr (length g.now)

    abbrev Arg : Type 0
    Arg = Bor (List Arc) × (Bor (List ℤ) × (MutBor (List ℕ) × (MutBor (List ℕ) × Unit {0})))

    abbrev arg : Arg
    arg = (x, (z, (f, (g, tt))))

    abbrev at : List Val × (List Val × (List Val × (List Val × Unit {0})))
    at = (vx ∷ [], (vz ∷ [], (vf ∷ [], (vg ∷ [], tt))))

    abbrev bound : (walk_of 𝓛 (ended w) (stayed w) (clauses 𝓤 w Promise)).Ghost
    bound = (((κ₀, (κ₁, (κ₂, (κ₃, tt)))), (q₀, (q₁, (q₂, (q₃, tt)))), tt, arg, at), tt)

    abbrev Post : Val → SProp 𝓤
    Post = (walk_of 𝓛 (ended w) (stayed w) (clauses 𝓤 w Promise)).post bound

    -- what is owned, and the tokens that `over` takes and gives back
    abbrev Arcs : Fml
    Arcs = (ShrSlice (named 0) κ₀ T.the_row).own_val x (vx ∷ [])

    abbrev Supplies : Fml
    Supplies = (ShrSlice (named 1) κ₁ i32).own_val z (vz ∷ [])

    abbrev Buffers : Fml
    Buffers = fsep ((MutSlice (named 2) κ₂ u32).own_val f (vf ∷ [])) (fsep ((MutSlice (named 3) κ₃ (UInt w)).own_val g (vg ∷ [])) ftrue)

    abbrev Tokens : Item 𝓤
    Tokens = ‵ (flft κ₁ q₁) ⊛ (‵ (flft κ₂ q₂) ⊛ (‵ (flft κ₃ q₃) ⊛ ‵ ftrue))

    -- what is left of a buffer whose numbers are ws at exit
    abbrev First : List ℕ → Fml
    First ws = (gave_slice {n = 4} (2 ∷ []) (tt {0}) (plain (λ _. u32))).has bound.0.0 f ws (vf ∷ [])

    abbrev Second : List ℕ → Fml
    Second ws = (gave_slice {n = 4} (3 ∷ []) (tt {0}) (plain (λ _. UInt w))).has bound.0.0 g ws (vg ∷ [])

    exits : (r : R.Denot) (u : Val) (a b : List ℕ) → Promise (flattened x.now) z.now f.now g.now a b r → length a ≡ length f.now → length b ≡ length g.now
        → ent 𝓤 (⋆ 𝓛 (‵ (flft κ₀ q₀) ∷ Tokens ∷ ‵ (First a) ∷ ‵ (Second b) ∷ ‵ Supplies ∷ ‵ Arcs ∷ ‵ (R.own_val r (u ∷ [])) ∷ [])) (Post u)
    exits r u a b e la lb =
        qed 𝓛 (‵ (flft κ₀ q₀) ∷ Tokens ∷ ‵ (First a) ∷ ‵ (Second b) ∷ ‵ Supplies ∷ ‵ Arcs ∷ ‵ (R.own_val r (u ∷ [])) ∷ []) ∵
        suffices ! _ (ends_at 𝓛 (ended w) (stayed w) (clauses 𝓤 w Promise) bound u r (tt, (tt, (a, (b, tt)))) (tt, (tt, (la, (lb, tt))))) $
        says ! {P = on_exit 𝓛 (ended w) (stayed w) bound.0.0 bound.0.1 bound.0.4 u r bound.0.3 (tt, (tt, (a, (b, tt))))} e $
        join ! $ nothing ! $ move ! (3 ∷ 0 ∷ []) $ fjoin ! $ move ! (2 ∷ 0 ∷ []) $ fjoin ! $ move ! (2 ∷ 0 ∷ []) $ fjoin ! $ move ! (2 ∷ 0 ∷ []) $ fjoin ! $ move ! (1 ∷ []) $ done !

    -- what the callees' triples bind outside, and that the walk has what they ask
    abbrev to_take : (Take 𝓛 at_mem run).Ghost
    to_take = (((κ₀, tt), (q₀, tt), tt, (x, tt), (vx ∷ [], tt)), tt)

    goes_take : ent 𝓤 (sep 𝓤 (A.lft κ₀ q₀) (sem 𝓛 Arcs)) ((Take 𝓛 at_mem run).pre to_take)
    goes_take =
        qed 𝓛 (‵ (flft κ₀ q₀) ∷ ‵ Arcs ∷ []) ∵ nothing ! $ move ! (1 ∷ 0 ∷ []) $ join ! $ nothing ! $ move ! (2 ∷ 0 ∷ []) $ fjoin ! $ move ! (1 ∷ 0 ∷ []) $ join ! $ frame ! $ done !

    abbrev taken : List ℕ
    taken = taken_apart x.now (cut_at (length x.now))

    take_said : (ys : List ℕ) → ent 𝓤 (ensured 𝓛 take-apart.ended (take-apart.clauses 𝓛 at_mem run) (κ₀, tt) (x, tt) tt ys) (fact 𝓤 (ys ≡ taken))
    take_said ys = ex_e 𝓤 _ (λ ws. snd∗ 𝓤 (sem 𝓛 (lasts take-apart.ended (κ₀, tt) (x, tt) ws)) (fact 𝓤 (ys ≡ taken)))

    module _ (ys : List ℕ) (v : Val) where
      abbrev Given_over : Type 0
      Given_over = List ℕ × (ℕ × (Bor (List ℤ) × (MutBor (List ℕ) × (MutBor (List ℕ) × Unit {0}))))

      abbrev given_over : Given_over
      given_over = (ys, (length x.now, (z, (f, (g, tt)))))

      abbrev to_over : (Over 𝓛 at_mem run w Promise).Ghost
      to_over = (((κ₁, (κ₂, (κ₃, tt))), (q₁, (q₂, (q₃, tt))), tt, given_over, (v ∷ [], (vint w64 (length x.now) ∷ [], (vz ∷ [], (vf ∷ [], (vg ∷ [], tt)))))), tt)

      goes_over : length x.now < 2 ^ 64
          → ent 𝓤 (⋆ 𝓛 (Tokens ∷ ‵ ((Array u32 room).own_val ys (v ∷ [])) ∷ ‵ (fsep Supplies Buffers) ∷ [])) ((Over 𝓛 at_mem run w Promise).pre to_over)
      goes_over fits =
          qed 𝓛 (Tokens ∷ ‵ ((Array u32 room).own_val ys (v ∷ [])) ∷ ‵ (fsep Supplies Buffers) ∷ []) ∵
          owned ! usize (Is usize) (uint_Makes 𝓛 w64) (length x.now) (vint w64 (length x.now) ∷ []) (refl, fits) $ move ! (0 ∷ 3 ∷ []) $ fjoin ! $
          move ! (2 ∷ 0 ∷ []) $ fjoin ! $ move ! (1 ∷ 0 ∷ []) $ join ! $ frame ! $ done !

      -- what `over` says of its answer and of the buffers at exit
      abbrev Said : R.Denot → (a b : List ℕ) → Type 0
      Said r a b = OfArcs ys (length x.now) (λ flat. Promise flat z.now f.now g.now a b r)

    module _ (C : Calls 𝓤 H) (Λ : Loops 𝓤 H) (fm : FmC 𝓤 H 𝓛.laws C) (take over : Callee)
        (known-take : Triple 𝓤 (C take) (Take 𝓛 at_mem run)) (Known-over : Triple 𝓤 (C over) (Over 𝓛 at_mem run w Promise)) where
      walk : Typed → Room T.the_row (length x.now) → Room i32 (length z.now) → Room u32 (length f.now) → Room (UInt w) (length g.now)
          → ent 𝓤 (on_entry 𝓛 (ended w).signature (κ₀, (κ₁, (κ₂, (κ₃, tt)))) (q₀, (q₁, (q₂, (q₃, tt)))) arg at) (WpFn 𝓤 H C Λ (function w take over) (vx ∷ vz ∷ vf ∷ vg ∷ []) Post)
      walk typed room₀ room₁ room₂ room₃ =
          qed 𝓛 ((‵ (flft κ₀ q₀) ⊛ Tokens) ∷ ‵ (owns (ShrSlice (named 0) κ₀ T.the_row ∷ ShrSlice (named 1) κ₁ i32 ∷ MutSlice (named 2) κ₂ u32 ∷ MutSlice (named 3) κ₃ (UInt w) ∷ []) arg at) ∷ []) ∵
          enter ! C Λ (function w take over) (vx ∷ vz ∷ vf ∷ vg ∷ []) _ $
          alloc1 ! (λ l₀. alloc1 ! (λ l₁. alloc1 ! (λ l₂. alloc1 ! (λ l₃. alloc1 ! (λ l₄. alloc1 ! (λ l₅. alloc1 ! (λ l₆. alloc1 ! (λ l₇. alloc1 ! (λ l₈. alloc1 ! (λ l₉. alloc1 ! (λ l₁₀. alloc0 ! $ params1 ! $
          pass1 ! (init ! 18 refl (tt, (tt, (record { fits = room₀.0 }, tt)))) $ pass1 ! (init ! 16 refl (tt, (tt, (record { fits = room₁.0 }, tt)))) $
          pass1 ! (init ! 14 refl (tt, (tt, (record { fits = room₂.0 }, tt)))) $ pass1 ! (init ! 12 refl (tt, (tt, (record { fits = room₃.0 }, tt)))) $ pass0 ! $
          -- [_10; …; _9; …; _8; …; _7; …; _6; …; _5; …; _4; …; _3; …; _2; …; _1; …; _0; …; the tokens; what the parameters own]
          move ! (22 ∷ []) $ split ! $ move ! (24 ∷ []) $ fsplit ! $ use1 𝓛 (‵ Arcs ⊛ ‵ Arcs) ((shr_slice_copy 𝓛 (named 0) κ₀ T.the_row TL.the_row_laws.shr_laws).twice x (vx ∷ [])) $ split ! $
          move ! (3 ∷ 0 ∷ []) $ use2 𝓛 (raw ((Take 𝓛 at_mem run).pre to_take)) goes_take $
          -- [what `take_apart` asks; the arcs; the supplies and the buffers; the other tokens; _10; …]
          calls_at ! fm (Take 𝓛 at_mem run) known-take to_take (and_then ! (load ! (from ! (stop !)) (look ! 22 refl)) (no_more !)) (λ v.
          use1 𝓛 (later (some (λ (ys : List ℕ). ((‵ (flft κ₀ q₀) ⊛ ‵ ftrue) ⊛ ‵ ((Array u32 room).own_val ys (v ∷ []))) ⊛ raw (ensured 𝓛 take-apart.ended (take-apart.clauses 𝓛 at_mem run) (κ₀, tt) (x, tt) tt ys)))) (id⊢ 𝓤 _) $ await ! tt $ pick ! (λ ys.
          split ! $ move ! (1 ∷ []) $ use1 𝓛 (raw (fact 𝓤 (ys ≡ taken))) (take_said ys) $ heard ! (ys ≡ taken) (λ e. split ! $ move ! (1 ∷ []) $
          peeks ! (Array u32 room) (Is (Array u32 room)) (shows 𝓛 (Array u32 room)) ys (v ∷ []) (λ is.
          -- [what the array owns; the arcs' token; the arcs; the supplies and the buffers; the other tokens; _10; …]
          land ! (from ! (stop !)) (init ! 15 refl ((Array-Lawful 𝓛 u32 (uint_Lawful 𝓛 w32) room).typed ys _ is).0) $
          assigns ! (of_opd ! (load ! (from ! (fld ! refl (stop !))) (look_in ! 23 (sub ! 1 refl (whole !))))) (from ! (stop !)) (init ! 13 refl (tt, record { fits = room₀.0 })) $
          assigns ! (addr ! (from ! (fld ! refl (hop ! (look_in ! 19 (sub ! 0 refl (whole !))) (stop !))))) (from ! (stop !)) (init ! 11 refl (tt, tt)) $
          assigns ! (agg ! (and_then ! (load ! (from ! (stop !)) (look ! 11 refl)) (and_then ! (load ! (from ! (fld ! refl (stop !))) (look_in ! 19 (sub ! 1 refl (whole !)))) (no_more !)))) (from ! (stop !)) (init ! 9 refl (tt, (tt, (record { fits = room₂.0 }, tt)))) $
          assigns ! (addr ! (from ! (fld ! refl (hop ! (look_in ! 17 (sub ! 0 refl (whole !))) (stop !))))) (from ! (stop !)) (init ! 7 refl (tt, tt)) $
          assigns ! (agg ! (and_then ! (load ! (from ! (stop !)) (look ! 7 refl)) (and_then ! (load ! (from ! (fld ! refl (stop !))) (look_in ! 17 (sub ! 1 refl (whole !)))) (no_more !)))) (from ! (stop !)) (init ! 5 refl (tt, (tt, (record { fits = room₃.0 }, tt)))) $
          move ! (3 ∷ []) $ fsplit ! $ use1 𝓛 (‵ Supplies ⊛ ‵ Supplies) ((shr_slice_copy 𝓛 (named 1) κ₁ i32 (sint_row_laws w32)).twice z (vz ∷ [])) $ split ! $ move ! (0 ∷ 2 ∷ []) $ fjoin ! $ move ! (5 ∷ 2 ∷ 0 ∷ []) $
          use3 𝓛 (raw ((Over 𝓛 at_mem run w Promise).pre (to_over ys v))) (goes_over ys v room₀.0) $
          -- [what `over` asks; the supplies; the arcs' token; the arcs; _10; …]
          calls_at ! fm (Over 𝓛 at_mem run w Promise) Known-over (to_over ys v) (and_then ! (load ! (from ! (stop !)) (look ! 14 refl)) (and_then ! (load ! (from ! (stop !)) (look ! 12 refl)) (and_then ! (load ! (from ! (stop !)) (look ! 20 refl)) (and_then ! (load ! (from ! (stop !)) (look ! 8 refl)) (and_then ! (load ! (from ! (stop !)) (look ! 4 refl)) (no_more !)))))) (λ u.
          use1 𝓛 (later (some (λ (r : R.Denot). (Tokens ⊛ ‵ (R.own_val r (u ∷ []))) ⊛ raw (ensured 𝓛 (over_ended w) (over_clauses 𝓤 w Promise) (κ₁, (κ₂, (κ₃, tt))) (given_over ys v) tt r)))) (id⊢ 𝓤 _) $ await ! tt $ pick ! (λ r.
          split ! $ move ! (1 ∷ []) $ use1 𝓛 (some (λ (zs : Unit {0} × (Unit {0} × (Unit {0} × (List ℕ × (List ℕ × Unit {0}))))). ‵ (lasts (over_ended w) (κ₁, (κ₂, (κ₃, tt))) (given_over ys v) zs) ⊛ raw (fact 𝓤 (Said ys v r zs.1.1.1.0 zs.1.1.1.1.0)))) (id⊢ 𝓤 _) $ pick ! (λ zs.
          split ! $ move ! (1 ∷ []) $ heard ! (Said ys v r zs.1.1.1.0 zs.1.1.1.1.0) (λ o.
          fsplit ! $ drop ! $ fsplit ! $ drop ! $ fsplit ! $ drop ! $ fsplit ! $ fsplit ! $ fsplit ! $ move ! (1 ∷ []) $ feq_l ! (λ la. fjoin ! $ move ! (1 ∷ []) $ fsplit ! $ fsplit ! $ fsplit ! $ move ! (1 ∷ []) $ feq_l ! (λ lb. fjoin ! $
          -- [the second buffer; true; the first buffer; the other tokens and the result; the supplies; the arcs' token; the arcs; _10; …]
          move ! (3 ∷ []) $ split ! $ move ! (1 ∷ []) $ peeks ! R (Is R) (shows 𝓛 R) r (u ∷ []) (λ is'.
          land ! (from ! (stop !)) (init ! 28 refl (typed r u is')) $
          returns ! (look ! 28 refl) $ forget ! 8 refl $ forget ! 10 refl $ forget ! 12 refl $ forget ! 14 refl $ forget ! 16 refl $ forget ! 18 refl $ forget ! 20 refl $ forget ! 22 refl $ forget ! 24 refl $ forget ! 26 refl $ forget ! 28 refl $
          move ! (28 ∷ 29 ∷ []) $ free1 ! $ move ! (26 ∷ 27 ∷ []) $ free1 ! $ move ! (24 ∷ 25 ∷ []) $ free1 ! $ move ! (22 ∷ 23 ∷ []) $ free1 ! $ move ! (20 ∷ 21 ∷ []) $ free1 ! $ move ! (18 ∷ 19 ∷ []) $ free1 ! $ move ! (16 ∷ 17 ∷ []) $ free1 ! $ move ! (14 ∷ 15 ∷ []) $ free1 ! $ move ! (12 ∷ 13 ∷ []) $ free1 ! $ move ! (10 ∷ 11 ∷ []) $ free1 ! $ move ! (8 ∷ 9 ∷ []) $ free1 ! $ free0 ! $ move ! (6 ∷ []) $ split ! $ keep ! (0 ∷ 3 ∷ 6 ∷ 4 ∷ 7 ∷ 8 ∷ 2 ∷ []) $
          by ! (exits r u zs.1.1.1.0 zs.1.1.1.1.0 (o.of_arcs x.now refl e) la lb)))))))))))))))))))))))

  module _ {M : Type 1} {𝓤 : Ura M} (𝓛 : Logic 𝓤) (at_mem : Memory → SProp 𝓤) (run : Routine → Fun 𝓤) (w : Width) (Promise : Promises) (take over : Callee) (typed : Typed) where
    open 𝓛 use {H}

    entry_walks : (C : Calls 𝓤 H) (Λ : Loops 𝓤 H) → FmC 𝓤 H 𝓛.laws C → Triple 𝓤 (C take) (Take 𝓛 at_mem run) → Triple 𝓤 (C over) (Over 𝓛 at_mem run w Promise)
        → Walks 𝓛 (ended w) (stayed w) (WpFn 𝓤 H C Λ (function w take over)) (clauses 𝓤 w Promise)
    entry_walks C Λ fm known-take Known-over = walked 𝓛 (ended w) (stayed w) (clauses 𝓤 w Promise) (WpFn 𝓤 H C Λ (function w take over))
        (λ κs. (shr_slice_vals, (shr_slice_vals, (mut_slice_vals, (mut_slice_vals, tt)))))
        (λ κs. (shr_slice_Tells (named 0) κs.0 T.the_row, (shr_slice_Tells (named 1) κs.1.0 i32, (mut_slice_Tells (named 2) κs.1.1.0 u32, (mut_slice_Tells (named 3) κs.1.1.1.0 (UInt w), tt)))))
        (λ κs qs bounds a g are. via 𝓤 _ (fst∗ 𝓤 _ (emp 𝓤))
        (walk 𝓛 at_mem run w Promise κs.0 κs.1.0 κs.1.1.0 κs.1.1.1.0 qs.0 qs.1.0 qs.1.1.0 qs.1.1.1.0 a.0 a.1.0 a.1.1.0 a.1.1.1.0
        C Λ fm take over known-take Known-over typed are.0.0.1 are.1.0.0.1 are.1.1.0.0.1 are.1.1.1.0.0.1))

    pub entry_meets : (𝓣 : Tables 𝓤 H) → Triple 𝓤 (𝓣.C take) (Take 𝓛 at_mem run) → Triple 𝓤 (𝓣.C over) (Over 𝓛 at_mem run w Promise)
        → Meets 𝓛 (ended w).signature (WpFn 𝓤 H 𝓣.C 𝓣.Λ (function w take over)) (closing 𝓛 (ended w) (clauses 𝓤 w Promise))
    entry_meets 𝓣 known-take Known-over = walk_Meets 𝓛 (ended w) (stayed w) (
      Goes-none_slice 𝓛 4 (0 ∷ []) tt (plain (λ _. T.the_row)) yes,
      (
        Goes-none_slice 𝓛 4 (1 ∷ []) tt (plain (λ _. i32)) yes,
        (Goes-gave_slice 𝓛 4 2 tt (plain (λ _. u32)), (Goes-gave_slice 𝓛 4 3 tt (plain (λ _. UInt w)), tt)),
      ),
    ) (clauses 𝓤 w Promise) (WpFn 𝓤 H 𝓣.C 𝓣.Λ (function w take over)) (WpFn-mono 𝓤 H 𝓛.laws 𝓣 (function w take over))
        (entry_walks 𝓣.C 𝓣.Λ (fm_of 𝓤 H 𝓛.laws 𝓣) known-take Known-over)
