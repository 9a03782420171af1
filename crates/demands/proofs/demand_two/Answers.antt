use Rattle.demands.specs.Calls.{Every}
use Rattle.demands.proofs.Demands.{papers}
use borrow.Author.Rules.{rules}
use Rattle.demands.proofs.demand_two.Goals as goal

pub returns : goal.returns
unfolding Every
returns c =
    let asked = c.ask_sets-sets.ensures in
    let lists = c.demand_three-lists.ensures in
    let findings = c.ask_findings-findings.ensures in
    let sheet = c.ask_sheet-sheet.ensures in
    record {
      on_setup = (
        asked.closure,
        (
          asked.lost,
          (
            asked.way,
            (
              asked.quick,
              (
                findings.backdoor,
                (
                  findings.idle,
                  (
                    findings.pair,
                    (
                      c.forecast_base-forecast.ensures,
                      (
                        c.smallest_cuts-cuts.ensures,
                        (
                          c.attacker_score-attackers.ensures,
                          (
                            c.next_access_set-next.ensures,
                            (
                              c.ask_bags-bags.ensures.score,
                              (lists.lists, (lists.security, (lists.recoverability, (lists.openings, (lists.lockouts, tt))))),
                            ),
                          ),
                        ),
                      ),
                    ),
                  ),
                ),
              ),
            ),
          ),
        ),
      );
      formed = findings.formed;
      bag_at_most = c.ask_bags-bags.ensures.compared;
      reading = sheet.reading;
      asked = sheet.asked;
      portal_score = sheet.score;
      portal_risk = sheet.risk;
      papers = papers;
    }
