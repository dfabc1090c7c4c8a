-- The date of a moment is one of the calendar, and its second is the moment.
use Rattle.std.proofs.Common.{◌≡◌, ℕ, zero, suc, ◌+◌, ◌-◌, ◌*◌, ◌/◌, ◌%◌, ◌<◌, ◌≤◌, Bool, true, false, nat_lt, min, refl, ap, sym, ◌∙◌, arith}
use Rattle.std.proofs.lemmas.Bool.Decides.{nat_tests}
use Rattle.httpdate.specs.Calendar.{days_in_year, days_in_month, days_of_years, days_of_months, days_from_civil, weekday, IsCivilDate}
use Rattle.httpdate.specs.Valid.{IsValid, parts_secs}
use Rattle.httpdate.specs.Date.{unix_secs, date_text}
use Rattle.httpdate.specs.declared.date.HttpDate.{HttpDate}
use Rattle.httpdate.proofs.CalendarLemmas.{days_of_years_closed, days_of_months_all}
use Rattle.httpdate.proofs.ValidLemmas.{is_valid_complete}
use Rattle.httpdate.proofs.Theorems.{date_text_is}
use Rattle.http_resp.specs.Moment.{year_and_day, month_and_day, parts_at, fixdate}
use Rattle.txt_core.specs.Limits.{last_moment}

long_year : (year : ℕ) → 365 ≤ days_in_year year
long_year year = grind (arith, nat_tests)

year_more : (years days day : ℕ) → days_in_year (1970 + years) ≤ days → days_of_years years + days ≡ day → days_of_years (suc years) + (days - days_in_year (1970 + years)) ≡ day
unfolding days_of_years
year_more years days day past is = omega arith

month_more : (year months days day : ℕ) → days_in_month year (suc months) ≤ days → days_of_months year months + days ≡ day → days_of_months year (suc months) + (days - days_in_month year (suc months)) ≡ day
unfolding days_of_months
month_more year months days day past is = omega arith

-- Whole years were taken off: what is left is a day of the year.
pub record InYear (day : ℕ) (found : ℕ × ℕ) : Type 0 where
  pub same : days_of_years found.0 + found.1 ≡ day
  pub within : found.1 < days_in_year (1970 + found.0)

year_step : (most years days day : ℕ) (fits : Bool) → nat_lt days (days_in_year (1970 + years)) ≡ fits → days_of_years years + days ≡ day
    → (days_in_year (1970 + years) ≤ days → InYear day (year_and_day most (suc years) (days - days_in_year (1970 + years))))
    → InYear day (elim fits [ true ↦ (years, days) | false ↦ year_and_day most (suc years) (days - days_in_year (1970 + years)) ])
year_step most years days day true test is next = record { same = is; within = grind (arith, nat_tests) }
year_step most years days day false test is next = next (grind (arith, nat_tests))

year_found : (most years days day : ℕ) → days ≤ most → days_of_years years + days ≡ day → InYear day (year_and_day most years days)
unfolding year_and_day
year_found zero years days day few is = record { same = is; within = omega (arith, long_year (1970 + years)) }
year_found (suc most) years days day few is =
    year_step most years days day _ refl is
    (λ past. year_found most (suc years) (days - days_in_year (1970 + years)) day (omega (arith, long_year (1970 + years))) (year_more years days day past is))

-- Whole months were taken off: what is left is a day of the month.
pub record InMonth (year day : ℕ) (found : ℕ × ℕ) : Type 0 where
  pub same : days_of_months year found.0 + found.1 ≡ day
  pub within : found.1 < days_in_month year (suc found.0)
  pub twelve : found.0 < 12

december : (year months : ℕ) → months ≡ 11 → days_of_months year months + days_in_month year (suc months) ≡ days_in_year year
unfolding days_of_months
december year months is = ap (λ n. days_of_months year (suc n)) is ∙ days_of_months_all year

month_step : (most year months days day : ℕ) (fits : Bool) → nat_lt days (days_in_month year (suc months)) ≡ fits → days_of_months year months + days ≡ day → months < 12
    → (days_in_month year (suc months) ≤ days → InMonth year day (month_and_day most year (suc months) (days - days_in_month year (suc months))))
    → InMonth year day (elim fits [ true ↦ (months, days) | false ↦ month_and_day most year (suc months) (days - days_in_month year (suc months)) ])
month_step most year months days day true test is early next = record { same = is; within = grind (arith, nat_tests); twelve = early }
month_step most year months days day false test is early next = next (grind (arith, nat_tests))

month_found : (most year months days day : ℕ) → months + most ≡ 11 → days_of_months year months + days ≡ day → day < days_in_year year → InMonth year day (month_and_day most year months days)
unfolding month_and_day
month_found zero year months days day few is within =
    let last : months ≡ 11 = omega arith in
    record { same = is; within = omega (arith, december year months last); twelve = omega arith }
month_found (suc most) year months days day few is within =
    month_step most year months days day _ refl is (omega arith)
    (λ past. month_found most year (suc months) (days - days_in_month year (suc months)) day (omega arith) (month_more year months days day past is) within)

-- No year of five digits has begun.
early_year : (years : ℕ) → days_of_years years < 2932897 → years < 8030
early_year years few = omega (arith, days_of_years_closed years)

civil_day : (day : ℕ) (in_year in_month : ℕ × ℕ) → InYear day in_year → InMonth (1970 + in_year.0) in_year.1 in_month → day < 2932897
    → IsCivilDate (1970 + in_year.0) (in_month.0 + 1) (in_month.1 + 1) × (days_from_civil (1970 + in_year.0) (in_month.0 + 1) (in_month.1 + 1) ≡ day)
civil_day day in_year in_month year month few =
    let since : 1970 + in_year.0 - 1970 ≡ in_year.0 = omega arith in
    let next : in_month.0 + 1 ≡ suc in_month.0 = omega arith in
    let before : in_month.0 + 1 - 1 ≡ in_month.0 = omega arith in
    let early = early_year in_year.0 (omega (arith, year.same)) in
    let within : in_month.1 < days_in_month (1970 + in_year.0) (in_month.0 + 1) = rw next month.within in (
      ((omega arith, omega arith), (omega arith, omega (arith, month.twelve)), (omega arith, omega (arith, within))),
      rw (since, before) (omega (arith, year.same, month.same)),
    )

no_years : (day : ℕ) → days_of_years 0 + day ≡ day
unfolding days_of_years
no_years day = omega arith

no_months : (year day : ℕ) → days_of_months year 0 + day ≡ day
unfolding days_of_months
no_months year day = omega arith

clock : (second : ℕ) → second / 86400 * 86400 + second % 86400 / 3600 * 3600 + second % 86400 % 3600 / 60 * 60 + second % 86400 % 60 ≡ second
clock second = omega arith

-- The parts are a valid date, and its second is the one.
pub parts_hold : (second : ℕ) → second ≤ last_moment → IsValid (parts_at second) × (parts_secs (parts_at second) ≡ second)
parts_hold second early =
    let day = second / 86400 in
    let few : day < 2932897 = omega arith in
    let year = year_found day 0 day day (omega arith) (no_years day) in
    let month = month_found 11 (1970 + (year_and_day day 0 day).0) 0 (year_and_day day 0 day).1 (year_and_day day 0 day).1 refl (no_months _ _) year.within in
    let civil = civil_day day _ _ year month few in
    ((civil.0, (omega arith, omega arith, omega arith), sym (ap weekday civil.1)), rw civil.1 (clock second))

-- The text of a date whose second is the moment.
pub date_is : (date : HttpDate) (moment : ℕ) → unix_secs date ≡ min moment last_moment → date_text date ≡ fixdate moment
unfolding fixdate
date_is date moment same =
    let second = min moment last_moment in
    let hold = parts_hold second (omega arith) in
    date_text_is date (parts_at second) (is_valid_complete (parts_at second) hold.0) (same ∙ sym hold.1)
