-- From what is read and what sinks take to how a check ends.
use Rattle.std.proofs.Common.{◌≡◌, ℕ, ◌<◌, Bool, true, false, List, length, take, Option, Some, None, Result, Ok, Err, refl, sym, ap, ◌∙◌, cond, inl, inr}
use Rattle.std.specs.Prelude.{◌⊎◌, nat_lt, IfOk, IfSome, codes}
use Rattle.check_verdict.specs.declared.run.FileReport.{FileReport}
use Rattle.check_verdict.specs.declared.run.Unanswered.{Unanswered}
use Rattle.check_verdict.specs.declared.status.CheckStatus.{CheckStatus}
use Rattle.check_verdict.specs.declared.status.CheckStatus.TheVariants as status
use Rattle.check_verdict.specs.declared.verdict.Verdict.{Verdict}
use Rattle.check_verdict.specs.declared.verdict.Verdict.TheVariants as verdict
use Rattle.check_verdict.specs.Ended.{told, IsOf, Ended}
use Rattle.check_verdict.specs.Headline.{Sunk, asked, Untouched, Broke, Puts, Gave, IsAccepted, IsRefused, CheckHeadline, Complete}
use Rattle.check_verdict.specs.Judged.{Judged, VerdictsAre}
use Rattle.check_verdict.specs.Lines.{verdict_of}
use Rattle.check_verdict.specs.Whole.{ToldLine, file_named, most_bytes, usage_line, too_long, of_verdict, of_reading, status_asked, whole_status}
use Rattle.base_outside.specs.Causes.{Rose, raised}
use Rattle.base_outside.specs.Contents.{Paths, Reading, bytes, longer, absent, at_path, read_of}
use Rattle.base_outside.specs.Files.{file_reading}
use Rattle.base_outside.specs.Sink.{Gains}
use Rattle.base_outside.specs.declared.files.FileAnswer.{FileAnswer}

pub broke : (s : Sunk) (piece : List ℕ) (t : CheckStatus) (taken : ℕ) → taken < length piece → Gains s.before s.after (take taken piece) → Rose s.faults_before s.faults_after → s.puts_after ≡ raised s.puts_before
    → Puts s piece t status.WriteFault
broke s piece t taken short gains rose asked = Puts.broke (record { taken = taken; short = short; part = gains; rose = rose; asked = asked })

-- what is told of a file that was read
flipped : (files : Option Paths) (path : List ℕ) (r : Reading) → IfSome files (λ fs. r ≡ read_of (at_path fs path) most_bytes) → Gave files path (λ z. z ≡ r)
flipped None path r h = tt
flipped (Some fs) path r h = sym h

pub is_of : (files : Option Paths) (path : List ℕ) (reading : FileAnswer) (r : Result FileReport Unanswered) → IfSome files (λ fs. file_reading reading ≡ read_of (at_path fs path) most_bytes)
    → IfOk r (λ a. told a ≡ of_reading (file_reading reading)) → IfOk r (IsOf files path)
is_of files path reading (Ok a) h e = record { reading = file_reading reading; gave = flipped files path (file_reading reading) h; same = e }
is_of files path reading (Err u) h e = tt

module _ (files : Option Paths) (words : List (List ℕ)) (faults_before faults_after : ℕ) (out err : Sunk) where
  pub answered : (path : List ℕ) (a : FileReport) (s : CheckStatus) → file_named words ≡ Some path → IsOf files path a → Untouched err → Puts out (told a).line (told a).status s
      → Ended (asked files faults_before faults_after) words out err s
  answered path a s named of same puts = Ended.answered path of.reading named of.gave same (put_as (told a) (of_reading of.reading) of.same puts) where
    put_as : (t u : ToldLine) → t ≡ u → Puts out t.line t.status s → Puts out u.line u.status s
    put_as t u e p = rw (← e) p

  -- what holds of the reading holds of what was read where files are told
  gave_as : (path : List ℕ) (r : Reading) (P : Reading → Type 0) → Gave files path (λ z. z ≡ r) → P r → Gave files path P
  gave_as path r P h p = by files h where
    by : (fs : Option Paths) → Gave fs path (λ z. z ≡ r) → Gave fs path P
    by None g = tt
    by (Some fs) g = rw g p

  -- no reading of files that are told has more bytes than were asked for
  short_read : (held : Option (List ℕ)) (x : List ℕ) → read_of held most_bytes ≡ bytes x → nat_lt most_bytes (length x) ≡ true → read_of held most_bytes ≡ longer
  short_read None x e h = absurd (cc)
  short_read (Some y) x e h = by (nat_lt most_bytes (length y)) refl e where
    by : (b : Bool) → nat_lt most_bytes (length y) ≡ b → cond b longer (bytes y) ≡ bytes x → cond b longer (bytes y) ≡ longer
    by true k g = refl
    by false k g = absurd (apart (nat_lt most_bytes (length x)) h (rw (same y x g) at k)) where
      apart : (b : Bool) → b ≡ true → b ≡ false → ⊥
      apart b m n = cc

      same : (y x : List ℕ) → bytes y ≡ bytes x → y ≡ x
      same y x g = cc

  long_read : (path x : List ℕ) → nat_lt most_bytes (length x) ≡ true → Gave files path (λ z. z ≡ bytes x) → Gave files path (λ z. z ≡ longer)
  long_read path x h g = by files g where
    by : (fs : Option Paths) → Gave fs path (λ z. z ≡ bytes x) → Gave fs path (λ z. z ≡ longer)
    by None k = tt
    by (Some fs) k = short_read (at_path fs path) x k h

  module _ (law : VerdictsAre) (s : CheckStatus) (path : List ℕ) (named : file_named words ≡ Some path) (same : Untouched err) where
    by_verdict : (x : List ℕ) (v : Verdict) → verdict_of x ≡ v → Gave files path (λ z. z ≡ bytes x) → Puts out (of_verdict v).line (of_verdict v).status s
        → CheckHeadline (asked files faults_before faults_after) words out err s
    by_verdict x verdict.Yes e g p = CheckHeadline.is_core_text path named (gave_as path (bytes x) IsAccepted g (IsAccepted.accepted x ((law x verdict.Yes).0 e))) same p
    by_verdict x (verdict.No w) e g p = CheckHeadline.is_none path w named (gave_as path (bytes x) (IsRefused w) g (IsRefused.refused x ((law x (verdict.No w)).0 e))) same p

    by_length : (x : List ℕ) (b : Bool) → nat_lt most_bytes (length x) ≡ b → Gave files path (λ z. z ≡ bytes x) → Puts out (cond b too_long (of_verdict (verdict_of x))).line (cond b too_long (of_verdict (verdict_of x))).status s
        → CheckHeadline (asked files faults_before faults_after) words out err s
    by_length x true e g p = CheckHeadline.is_longer path named (long_read path x e g) same p
    by_length x false e g p = by_verdict x (verdict_of x) refl g p

    by_reading : (r : Reading) → Gave files path (λ z. z ≡ r) → Puts out (of_reading r).line (of_reading r).status s → CheckHeadline (asked files faults_before faults_after) words out err s
    by_reading (bytes x) g p = by_length x (nat_lt most_bytes (length x)) refl g p
    by_reading longer g p = CheckHeadline.is_longer path named g same p
    by_reading absent g p = CheckHeadline.is_absent path named g same p

  -- how a check ends by its definition is how it ends by the cases of the grammar
  pub headline : VerdictsAre → (s : CheckStatus) → Ended (asked files faults_before faults_after) words out err s → CheckHeadline (asked files faults_before faults_after) words out err s
  headline law s (Ended.answered path r named gave same puts) = by_reading law s path named same r gave puts
  headline law s (Ended.wrong_words none same puts) = CheckHeadline.wrong_words none same puts
  headline law s (Ended.read_fault e rose o p) = CheckHeadline.read_fault e rose o p
  headline law s (Ended.no_memory e o p) = CheckHeadline.no_memory e o p

  abbrev IsComplete : CheckStatus → Type 0
  IsComplete s = Complete files words ((Rose faults_before faults_after) ⊎ ((Rose out.faults_before out.faults_after) ⊎ (Rose err.faults_before err.faults_after))) s

  excused : (s : CheckStatus) → (¬ Rose faults_before faults_after → ¬ Rose out.faults_before out.faults_after → ¬ Rose err.faults_before err.faults_after → ¬ (s ≡ status.Memory) → ⊥) → IsComplete s
  excused s never = by files where
    by : (fs : Option Paths) → Complete fs words ((Rose faults_before faults_after) ⊎ ((Rose out.faults_before out.faults_after) ⊎ (Rose err.faults_before err.faults_after))) s
    by None = tt
    by (Some fs) = λ quiet m. absurd (never (λ p. quiet (inl p)) (λ q. quiet (inr (inl q))) (λ r. quiet (inr (inr r))) m)

  asked_as : (s : CheckStatus) → IfSome files (λ fs. s ≡ whole_status fs words) → IsComplete s
  asked_as s h = by files h where
    by : (fs : Option Paths) → IfSome fs (λ f. s ≡ whole_status f words) → Complete fs words ((Rose faults_before faults_after) ⊎ ((Rose out.faults_before out.faults_after) ⊎ (Rose err.faults_before err.faults_after))) s
    by None h = tt
    by (Some fs) h = λ quiet m. h

  answer_status : (path : List ℕ) (r : Reading) → file_named words ≡ Some path → Gave files path (λ z. z ≡ r) → IfSome files (λ fs. (of_reading r).status ≡ whole_status fs words)
  answer_status path r named g = by files g where
    by : (fs : Option Paths) → Gave fs path (λ z. z ≡ r) → IfSome fs (λ f. (of_reading r).status ≡ whole_status f words)
    by None k = tt
    by (Some fs) k = sym (ap (status_asked fs) named ∙ ap (λ (z : Reading). (of_reading z).status) k)

  usage_status : file_named words ≡ None → IfSome files (λ fs. status.Usage ≡ whole_status fs words)
  usage_status none = by files where
    by : (fs : Option Paths) → IfSome fs (λ f. status.Usage ≡ whole_status f words)
    by None = tt
    by (Some fs) = sym (ap (status_asked fs) none)

  by_put : (s t : CheckStatus) (line : List ℕ) (sunk : Sunk) → (Rose sunk.faults_before sunk.faults_after → IsComplete s) → IsComplete t → Puts sunk line t s → IsComplete s
  by_put s _ line sunk rose h (Puts.put w) = h
  by_put _ t line sunk rose h (Puts.broke b) = rose b.rose

  pub complete : (s : CheckStatus) → Ended (asked files faults_before faults_after) words out err s → IsComplete s
  complete s (Ended.answered path r named gave same puts) =
      by_put s (of_reading r).status (of_reading r).line out (λ rose. excused s (λ p q e m. q rose)) (asked_as (of_reading r).status (answer_status path r named gave)) puts
  complete s (Ended.wrong_words none same puts) = by_put s status.Usage usage_line err (λ rose. excused s (λ p q e m. e rose)) (asked_as status.Usage (usage_status none)) puts
  complete s (Ended.read_fault e rose o p) = excused s (λ f q r m. f rose)
  complete s (Ended.no_memory e o p) = excused s (λ f q r m. m e)
