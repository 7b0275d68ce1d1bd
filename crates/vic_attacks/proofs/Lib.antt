mod Honesty
mod FirstOnes
mod Counting
