-- Ready code needs no more variables than it mentions.
use Rattle.std.proofs.Common.{List, ◌++◌, refl, inl, inr}
use Rattle.base_data.proofs.ElementLemmas.{among-first, among-second}
use Rattle.base_data.specs.Elements.{Among}
use Rattle.base_data.specs.declared.name.Label.{Label}
use Rattle.core_language.specs.Core as core
use Rattle.core_language.specs.Core.{PlainCore, PlainCores, PlainInits, PlainCases, PlainClauses}
use Rattle.core_language.specs.References.{formals_labels, mentions, all_mentions, init_mentions, case_mentions, clause_mentions}
use Rattle.law_core.specs.Parts.{init_labels}
use Rattle.law_core.specs.Templates.{depths}
use Rattle.eval_code.specs.Setting.{PlainSetting}
use Rattle.law_whole.specs.Ready.{Variables, PatternVariables, Besides, BesidesPattern, Ready, SequenceReady, AllReady, InitsReady, CasesReady, ClausesReady}

besides_at : (ls : List Label) (F H : Variables) (l : Label) → (F l → H l) → Besides ls F l → Besides ls H l
besides_at ls F H l f (inl x) = inl x
besides_at ls F H l f (inr x) = inr (f x)

-- those of these labels that the first finds, the second finds too
abbrev pub FindsOf : List Label → Variables → Variables → Type 0
FindsOf ms F H = (l : Label) → Among ms l → F l → H l

first : (ms ns : List Label) (F H : Variables) → FindsOf (ms ++ ns) F H → FindsOf ms F H
first ms ns F H f l a = f l (among-first ms ns l a)

second : (ms ns : List Label) (F H : Variables) → FindsOf (ms ++ ns) F H → FindsOf ns F H
second ms ns F H f l a = f l (among-second ms ns l a)

within : (ls ms : List Label) (F H : Variables) → FindsOf ms F H → FindsOf ms (Besides ls F) (Besides ls H)
within ls ms F H f l a = besides_at ls F H l (f l a)

module _ (w : PlainSetting) where
  mutual
    pub ready_fewer : (F H : Variables) (G : PatternVariables) (c : PlainCore) → FindsOf (mentions c) F H → Ready w F G c → Ready w H G c
    ready_fewer F H G (core.quoted d) f r = tt
    ready_fewer F H G (core.variable l) f r = f l (inl refl) r
    ready_fewer F H G (core.primitive op) f r = tt
    ready_fewer F H G (core.one_armed c d) f r =
        (ready_fewer F H G c (first (mentions c) (mentions d) F H f) r.0, ready_fewer F H G d (second (mentions c) (mentions d) F H f) r.1)
    ready_fewer F H G (core.two_armed c d e) f r =
        let g = second (mentions c) (mentions d ++ mentions e) F H f in (
          ready_fewer F H G c (first (mentions c) (mentions d ++ mentions e) F H f) r.0,
          (ready_fewer F H G d (first (mentions d) (mentions e) F H g) r.1.0, ready_fewer F H G e (second (mentions d) (mentions e) F H g) r.1.1),
        )
    ready_fewer F H G (core.assignment l c) f r = tt
    ready_fewer F H G (core.sequence cs) f r = sequence_fewer F H G cs f r
    ready_fewer F H G (core.procedure number cs plain) f r = (r.0, cases_fewer F H G cs f r.1)
    ready_fewer F H G (core.letrec o is c) f r =
        let ls = init_labels is in (
          inits_fewer (Besides ls F) (Besides ls H) G is (within ls (init_mentions is) F H (first (init_mentions is) (mentions c) F H f)) r.0,
          ready_fewer (Besides ls F) (Besides ls H) G c (within ls (mentions c) F H (second (init_mentions is) (mentions c) F H f)) r.1,
        )
    ready_fewer F H G (core.call c cs) f r =
        (ready_fewer F H G c (first (mentions c) (all_mentions cs) F H f) r.0, all_fewer F H G cs (second (mentions c) (all_mentions cs) F H f) r.1)
    ready_fewer F H G (core.instance t sp) f r = r
    ready_fewer F H G (core.matching c cs sp) f r =
        (ready_fewer F H G c (first (mentions c) (clause_mentions cs) F H f) r.0, clauses_fewer F H G cs (second (mentions c) (clause_mentions cs) F H f) r.1)

    sequence_fewer : (F H : Variables) (G : PatternVariables) (cs : PlainCores) → FindsOf (all_mentions cs) F H → SequenceReady w F G cs → SequenceReady w H G cs
    sequence_fewer F H G core.none f r = r
    sequence_fewer F H G (core.more c cs) f r =
        (ready_fewer F H G c (first (mentions c) (all_mentions cs) F H f) r.0, all_fewer F H G cs (second (mentions c) (all_mentions cs) F H f) r.1)

    all_fewer : (F H : Variables) (G : PatternVariables) (cs : PlainCores) → FindsOf (all_mentions cs) F H → AllReady w F G cs → AllReady w H G cs
    all_fewer F H G core.none f r = tt
    all_fewer F H G (core.more c cs) f r =
        (ready_fewer F H G c (first (mentions c) (all_mentions cs) F H f) r.0, all_fewer F H G cs (second (mentions c) (all_mentions cs) F H f) r.1)

    inits_fewer : (F H : Variables) (G : PatternVariables) (is : PlainInits) → FindsOf (init_mentions is) F H → InitsReady w F G is → InitsReady w H G is
    inits_fewer F H G core.no_init f r = tt
    inits_fewer F H G (core.init l c is) f r =
        (ready_fewer F H G c (first (mentions c) (init_mentions is) F H f) r.0, inits_fewer F H G is (second (mentions c) (init_mentions is) F H f) r.1)

    cases_fewer : (F H : Variables) (G : PatternVariables) (cs : PlainCases) → FindsOf (case_mentions cs) F H → CasesReady w F G cs → CasesReady w H G cs
    cases_fewer F H G core.no_case f r = tt
    cases_fewer F H G (core.case fs c cs) f r =
        let ls = formals_labels fs in (
          ready_fewer (Besides ls F) (Besides ls H) G c (within ls (mentions c) F H (first (mentions c) (case_mentions cs) F H f)) r.0,
          cases_fewer F H G cs (second (mentions c) (case_mentions cs) F H f) r.1,
        )

    clauses_fewer : (F H : Variables) (G : PatternVariables) (cs : PlainClauses) → FindsOf (clause_mentions cs) F H → ClausesReady w F G cs → ClausesReady w H G cs
    clauses_fewer F H G core.no_clause f r = tt
    clauses_fewer F H G (core.clause p c cs) f r = (
      ready_fewer F H (BesidesPattern (depths 0 p) G) c (first (mentions c) (clause_mentions cs) F H f) r.0,
      clauses_fewer F H G cs (second (mentions c) (clause_mentions cs) F H f) r.1,
    )
    clauses_fewer F H G (core.fended p d c cs) f r =
        let g = second (mentions d) (mentions c ++ clause_mentions cs) F H f in (
          ready_fewer F H (BesidesPattern (depths 0 p) G) d (first (mentions d) (mentions c ++ clause_mentions cs) F H f) r.0,
          (
            ready_fewer F H (BesidesPattern (depths 0 p) G) c (first (mentions c) (clause_mentions cs) F H g) r.1.0,
            clauses_fewer F H G cs (second (mentions c) (clause_mentions cs) F H g) r.1.1,
          ),
        )
