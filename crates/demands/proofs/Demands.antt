-- Demand 1 follows from demand 2: what meets the contracts is an outcome, and the only one. Demand 3 is what the calls answer on a setup that is reached.
-- Assumes nothing.
use mathlib.Core.Bool.{true, false}
use mathlib.Core.List.{List, [], ◌∷◌}
use Prim.Native.Nat.{ℕ}
use Rattle.vertex_set.specs.Set.{Member}
use Rattle.setup.specs.declared.Setup.{Setup}
use Rattle.questions.specs.Contract.{ends}
use Rattle.questions.specs.Questions.{asks12, asks13}
use Rattle.questions.proofs.Asks.{AllYes}
use Rattle.questions.proofs.Contract.{answers_of}
use Rattle.bases.proofs.Formed.{sums-hold}
use Rattle.quick_yes.proofs.Agrees.{quick-agrees}
use Rattle.next_sets.proofs.Walks.{whole-walk}
use Rattle.findings.proofs.Routes.{no-easier-route}
use Rattle.living.proofs.Unique.{nothing-changes}
use Rattle.register.proofs.Afternoon.{register-law}
use Rattle.multisets.specs.Multisets.{BagAtMost}
use Rattle.sheet_format.proofs.Question12.{fresh-holds-nothing}
use Rattle.pool_format.proofs.Colours.{renaming}
use Rattle.pool_format.proofs.PooledRows.{pooled-valid}
use Rattle.pool_format.proofs.Meaning.{always-enough, pooled-text, pooling}
use Rattle.report_text.proofs.Unmixed.{unmixed-prints}
use Rattle.report_writer.proofs.Whole.{whole-report}
use Rattle.histories.specs.Histories.{Reached}
use Rattle.histories.proofs.Runs.{opened-always, refused-stays}
use Rattle.histories.proofs.Reaching.{question-12}
use Rattle.histories.proofs.Heed.{no-heed}
use Rattle.histories.proofs.Drawings.{drawing-saved}
use Rattle.portal_living.proofs.Lists.{lives-in-words}
use Rattle.handin_format.proofs.Afternoon.{lines-law}
use Rattle.handin_format.proofs.Sets.{set-of-names}
use Rattle.handin_format.proofs.Lines.{line-of-entry, entry-of-line}
use Rattle.handin_format.proofs.ReadBack.{set-read-back, set-enough}
use Rattle.handin_format.proofs.Marks.{line-marks, register-marks}
use Rattle.answers.specs.Demand3.{Demand3}
use Rattle.answers.specs.declared.AllAnswers.{AllAnswers}
use Rattle.answers.specs.Answers.{bases_reply, bases_call, score_reply, risk_reply, score_call, marks_reply, marks_call}
use Rattle.sheet_format.specs.Read.{reading as as_read}
use Rattle.demands.specs.declared.Answers.{Answers}
use Rattle.demands.specs.Calls.{Every, MadeCall, SettledOn, FulfilledOn, three_made}
use Rattle.demands.specs.Demands.{Demand1, Papers, Demand2, Demand3Reached}
use Rattle.demands.proofs.Sheets.{settled-reading, settled-portal}
use Rattle.demands.proofs.Calls.{every_of, settled_on, settled-yes-no, settled-living, settled-hand-in, settled-withdrawal, settled-pool}
use Rattle.demands.proofs.HandIns.{settled-read-set, settled-read-line, settled-entering}
use Rattle.demands.proofs.ForC.{settled-for-c}

pub papers : Papers
papers =
    record {
      report = whole-report;
      quick = quick-agrees;
      routes = λ s g w set v h. (no-easier-route s).opens g w (Member set) v h;
      scores = λ s. (no-easier-route s).score;
      prints = unmixed-prints;
      sums = sums-hold;
      fresh = fresh-holds-nothing;
      opened = opened-always;
      stays = refused-stays;
      words = lives-in-words;
      nothing = nothing-changes;
      reached = question-12;
      unheeded = no-heed;
      saved = drawing-saved;
      walk = whole-walk;
      renaming = renaming;
      valid = pooled-valid;
      enough = always-enough;
      text = pooled-text;
      pooling = pooling;
      register = register-law;
      lines = lines-law;
      line_of_entry = line-of-entry;
      entry_of_line = entry-of-line;
      set_of_names = set-of-names;
      set_read_back = set-read-back;
      set_enough = set-enough;
      line_marks = line-marks;
      register_marks = register-marks;
    }

pub one_of_two : (text : List ℕ) (item : ℕ) (s : Setup) (calls : List MadeCall) (opened locked : List ℕ) (r : Answers) → Demand2 text item s calls opened locked r
    → Demand1 text item s calls opened locked r
one_of_two text item s calls opened locked r d =
    record {
      on_setup = every_of (FulfilledOn s) (SettledOn s) calls (settled_on s) d.on_setup;
      formed = settled-yes-no (Reached s) r.findings.formed d.formed;
      bag_at_most = settled-yes-no (BagAtMost opened locked) r.bags.compared d.bag_at_most;
      reading = settled-reading text (as_read r.sheet.reading) d.reading d.asked;
      portal_score = settled-portal false text item r.sheet.score d.portal_score;
      portal_risk = settled-portal true text item r.sheet.risk d.portal_risk;
      hand_in = settled-hand-in;
      withdraw = settled-withdrawal;
      pool = settled-pool;
      living = settled-living;
      read_set = settled-read-set;
      read_line = settled-read-line;
      enter_line = settled-entering;
      for_c = settled-for-c;
    }

pub three-reached : (s : Setup) (target : ℕ) (list list' opened locked : List ℕ) (r : AllAnswers)
    → Demand3 s target list opened locked (ends (bases_reply r.bases) (list' ∷ [])) (ends (score_reply r.score) []) (ends (risk_reply r.risk) []) (ends (marks_reply r.openings) [])
    (ends (marks_reply r.lockouts) []) → Demand3Reached s target (three_made target list list' opened locked r)
unfolding Every
three-reached s target list list' opened locked r d h l =
    let y : AllYes (asks12 s ∷ asks13 s target ∷ []) = ((question-12 s).from h, (l, tt)) in (
      answers_of (bases_call s target list) _ d.lists y,
      (
        answers_of (score_call false s target) _ d.security y,
        (
          answers_of (score_call true s target) _ d.recoverability y,
          (answers_of (marks_call false s target opened) _ d.openings y, (answers_of (marks_call true s target locked) _ d.lockouts y, tt)),
        ),
      ),
    )
