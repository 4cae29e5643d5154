pub mod Bisection
